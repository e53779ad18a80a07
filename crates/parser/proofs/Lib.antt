-- Laws about whole frames: what one comes to and what an accepted one is; what the calls say and leave; demand 3, and the same of the tables; order; exact
-- numbers; written frames read back; and that no second result meets a promise.
pub mod Frames
pub mod Calls
pub mod Kept
pub mod Entries
pub mod Order
pub mod Exact
pub mod Back
pub mod Unique
