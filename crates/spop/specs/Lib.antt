-- What a C program is told, a value as it has one, and what each call promises; and what only private contracts cite.
pub mod Told
pub mod Values
pub mod Promise
pub mod Inner
