-- The ways to keep what a call promises; and that no second result meets it.
pub mod Telling
pub mod Unique
