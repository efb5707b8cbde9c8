-- That our door meets the demands, and that wrong ones do not.
pub mod Flat
pub mod FunctionLaws
pub mod MeetsOne
pub mod Given
pub mod MeetsThree
pub mod Wrong
