-- What an answer is; the numbers of reasons; what a writer leaves in the bytes that were lent to it; orders of refusals; a table's records; and what only private
-- contracts cite.
pub mod Answer
pub mod Reason
pub mod Writes
pub mod Order
pub mod Table
pub mod Row
pub mod Inner
