-- The laws of text, for this crate's own proofs and those of the crates above it.
pub mod DigitLaws
pub mod LayLaws
