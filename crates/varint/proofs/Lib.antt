-- Laws about numbers: how their written form unrolls and how long it is, what reading one says, how the code goes on from byte to byte, and that no second result meets a
-- promise.
pub mod Writing
pub mod Reading
pub mod Next
pub mod Unique
