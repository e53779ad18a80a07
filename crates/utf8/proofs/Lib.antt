-- Laws about text: the table, its steps, lossy text, ASCII, texts that are the same, and what each walk over a text needs.
pub mod Table
pub mod Stepping
pub mod Lossy
pub mod Ascii
pub mod Fitting
pub mod Same
pub mod Advance
pub mod Walk
