-- The laws of timestamp payloads, for this crate's proofs and for the crates that carry stamps.
pub mod LayoutLaws
pub mod FieldLaws
pub mod RoundTrips
pub mod NullStamps
