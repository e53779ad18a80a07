-- Laws about strings and values: the table of kinds; reading, and what stands behind a type byte; the written form, and the checks before
-- it; the way there and back; numbers in the bytes that they are written as; what the writers inside leave; and that no second result meets a promise.
pub mod Shapes
pub mod Reading
pub mod Behind
pub mod Writing
pub mod Checking
pub mod Roundtrip
pub mod Exact
pub mod Output
pub mod Blocks
pub mod Unique
