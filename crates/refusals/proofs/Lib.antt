-- The laws of checks and answers, for every crate above this one.
pub mod NumberLaws
pub mod CheckLaws
pub mod AnswerLaws
