-- What a string and a value are, read and written; what is refused; what the calls promise; and what only private contracts cite.
pub mod Value
pub mod Form
pub mod Check
pub mod Promise
pub mod Inner
