-- What the call promises.
pub mod Promise
