-- What pairs, actions and payloads are, read; what comes next in one; what the calls promise; and what only private contracts cite.
pub mod Pair
pub mod Action
pub mod Payload
pub mod Item
pub mod Promise
pub mod Inner
