-- The three demands, over any library.
pub mod Library
pub mod Demand1
pub mod Given
pub mod Demand2
pub mod Route
pub mod Demand3
pub mod Bench
pub mod Pins
pub mod Witnesses
