-- A whole frame, read; and what the calls promise.
pub mod Frame
pub mod Promise
