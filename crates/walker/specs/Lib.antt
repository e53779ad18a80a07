-- What a walk over pairs is, and what the calls promise.
pub mod Walk
pub mod Promise
