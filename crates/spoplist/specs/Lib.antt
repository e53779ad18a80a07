-- Where a listing stops, and what private contracts cite.
pub mod Listing
pub mod Inner
