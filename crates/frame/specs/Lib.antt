-- A frame's bytes; the frame cut out and its head read; the numbers of types; pairs, actions and messages as records of a table, and the laws of
-- such records; and what the calls promise.
pub mod Head
pub mod Read
pub mod Kind
pub mod Records
pub mod Laws
pub mod Promise
