-- Laws about a walk over pairs.
pub mod Stepping
pub mod Walking
pub mod Unique
