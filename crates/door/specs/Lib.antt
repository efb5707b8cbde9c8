-- The demands over the functions that C calls.
pub mod Door
pub mod Demand1
pub mod Given
pub mod Demand3
