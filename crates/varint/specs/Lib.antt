-- Which bytes a number has, and what each call promises.
pub mod Number
pub mod Promise
