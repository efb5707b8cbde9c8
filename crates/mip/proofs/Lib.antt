-- The laws of MIPs and of site timing, for this crate's proofs and for the crates above it.
pub mod ModuloLaws
pub mod TimingLaws
pub mod Bench
pub mod FieldLaws
pub mod Operations
pub mod RoundTrips
