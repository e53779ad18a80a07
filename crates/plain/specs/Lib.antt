-- What the plain comparison of two keys answers, and what it leaves in the two buffers: what the call promises.
pub mod Promise
