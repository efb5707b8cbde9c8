-- The laws of the CRC, for this crate's own proofs and those of the crates above it.
pub mod Vectors
pub mod XorLaws
pub mod ShiftLaws
pub mod FeedLaws
pub mod TopLaws
pub mod RunLaws
pub mod OwnLaws
pub mod TableLaws
