-- Laws about texts that stand in their buffers, and that no second result meets the promise.
pub mod Laws
pub mod Unique
