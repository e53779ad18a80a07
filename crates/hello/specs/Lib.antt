-- The two negotiations of the HELLO handshake, and what each call promises.
pub mod Hello
pub mod Promise
