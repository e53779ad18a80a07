-- Laws about filling the tables step by step, about finding the payload of a frame, and about a table that is lent on and comes back.
pub mod Meeting
pub mod Finding
pub mod Again
pub mod Unique
