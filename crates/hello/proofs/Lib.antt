-- Laws about the negotiations, the wording that was, worked examples, and that no second result meets a promise.
pub mod Laws
pub mod NoPreRelease
pub mod Examples
pub mod Unique
