-- The Mega-frame Initialization Packet (000, clauses 4 to 6, annexes A and B) and site timing.
pub mod Layout
pub mod Read
pub mod Write
pub mod Timing
pub mod Rows
