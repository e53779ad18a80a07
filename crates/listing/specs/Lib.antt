-- Numbers and bytes as text; the lines, what is refused, and which line comes next; and what only private contracts cite.
pub mod Digits
pub mod Lines
pub mod Check
pub mod Order
pub mod Inner
