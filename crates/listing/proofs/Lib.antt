-- Laws about the listing: decimal digits and other texts; lines in pieces; which line comes next; what accepted frames are; the lines of a
-- frame, and that they lose nothing; that the steps are a frame's lines; how long lines are; and
-- that none of an accepted frame is refused.
pub mod Decimal
pub mod Text
pub mod Pieces
pub mod Coming
pub mod Accepted
pub mod Distinct
pub mod Frames
pub mod Apart
pub mod Lossless
pub mod Stepped
pub mod Tables
pub mod Room
pub mod Fitting
