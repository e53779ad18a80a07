-- Laws about a frame's head and payload; about the cut and the head, read, also of what was written; what records mean, and those of two tables in a row; and that no second
-- result meets a promise.
pub mod Laws
pub mod Answers
pub mod Cutting
pub mod Heads
pub mod Back
pub mod Meaning
pub mod Records
pub mod Rows
pub mod Unique
pub mod Types
