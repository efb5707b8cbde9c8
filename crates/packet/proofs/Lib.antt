-- The laws of T2-MI packets, for this crate's proofs and for the crates that carry and gather packets.
pub mod LayoutLaws
pub mod CutLaws
pub mod BatchLaws
pub mod FieldLaws
pub mod RoundTrips
pub mod Bench
