-- What pairs, actions and messages are written as and refused with; the whole answer of each writer; and what only private contracts
-- cite.
pub mod Pair
pub mod Action
pub mod Message
pub mod Frame
pub mod Inner
