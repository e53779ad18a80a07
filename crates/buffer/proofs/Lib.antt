-- Laws about how the frames of a buffer are read one behind the other; about what each of them is by itself, and that they follow each other; demand 3; and that no
-- second result meets the promise.
pub mod From
pub mod Going
pub mod Single
pub mod Kept
pub mod Unique
