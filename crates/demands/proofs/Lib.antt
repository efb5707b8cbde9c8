-- That our library meets the demands, that wrong ones do not, and the bench rows.
pub mod MeetsOne
pub mod Given
pub mod MeetsTwo
pub mod MeetsThree
pub mod Settled
pub mod Limits
pub mod Wrong
pub mod Bench
pub mod Pins
pub mod Witnesses
