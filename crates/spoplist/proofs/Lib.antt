-- Laws about the listing of an input: where it stops, that no line of it is refused, that it loses nothing but flags, and the worked examples.
pub mod Stopping
pub mod Standing
pub mod Inputs
pub mod Example
