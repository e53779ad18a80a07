-- Laws that every layer cites: how tests and answers are taken apart; things that stand in a row; what is written at the front of lent bytes or in parts; orders of
-- refusals; a table's records, what holds of each, lists of them that are told apart, two tables in a row, and the loops over records; and that no second result meets a writer's promise.
pub mod Cases
pub mod Output
pub mod Answers
pub mod Parts
pub mod Order
pub mod Records
pub mod Each
pub mod Apart
pub mod Rows
pub mod Row
pub mod Loops
pub mod Same
