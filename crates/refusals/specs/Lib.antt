-- What a refusal is, and what an operation answers with one.
pub mod Refusals
pub mod Checks
pub mod Exactly
pub mod Answers
