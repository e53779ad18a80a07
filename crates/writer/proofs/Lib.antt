-- Laws about the writers: lengths as far as they matter, the records' checks and bytes, the loop that checks and measures, the front of a
-- frame, what each answer is and what an accepted one has passed, what it left, and payloads joined and told apart.
pub mod Capped
pub mod Pairs
pub mod Actions
pub mod Messages
pub mod Checking
pub mod Begun
pub mod Answers
pub mod Laws
pub mod Spelled
pub mod Payload
pub mod Joined
