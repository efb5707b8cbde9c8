-- The laws of functions and their bodies, for this crate's proofs and for the crates above it.
pub mod KindLaws
pub mod BodyLaws
pub mod Accepted
pub mod RoundTrips
pub mod Bench
