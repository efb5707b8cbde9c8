-- The laws of this crate's definitions, for its own proofs and those of the crates above it.
pub mod Cases
pub mod Stretches
pub mod FormatLaws
pub mod NumberLaws
pub mod SignedLaws
pub mod Complement
pub mod PartLaws
pub mod ByteFormatLaws
pub mod LaidLaws
