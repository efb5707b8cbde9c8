-- The laws of addressing data, for this crate's proofs and for the crates above it.
pub mod EntryLaws
pub mod DataLaws
pub mod PayloadLaws
pub mod RoundTrips
pub mod WalkLaws
pub mod StepLaws
pub mod CursorLaws
pub mod GroupLaws
pub mod RowLaws
