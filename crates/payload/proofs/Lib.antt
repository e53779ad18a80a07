-- Laws about payloads: pairs and actions; one more of each sort; the tests of what comes next; a pass over one; filling tables; things in a row; what larger tables
-- keep; what is accepted, in which order, and the other way round; more bytes behind; what fits into other tables; written pairs and actions read back; exact numbers; the bytes of an
-- action; and that no second result meets a promise.
pub mod Pairs
pub mod Rows
pub mod Actions
pub mod Steps
pub mod Tests
pub mod Passing
pub mod Putting
pub mod Filling
pub mod Kept
pub mod Accepted
pub mod Holding
pub mod Longer
pub mod Fitting
pub mod Order
pub mod Back
pub mod Exact
pub mod Standing
pub mod Unique
