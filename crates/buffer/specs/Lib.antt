-- The frames of a buffer, read; what the call promises; and what only private contracts cite.
pub mod Buffer
pub mod Promise
pub mod Inner
