-- The answers that C gets, made of those of the crates below.
pub mod Answers
pub mod Making
pub mod Site
pub mod Reader
