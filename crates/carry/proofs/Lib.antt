-- The laws of the batch writer, for its own proofs, and for those of the demands.
pub mod Flow
pub mod LoadLaws
pub mod ByteLaws
pub mod OneLoad
pub mod BatchLaws
pub mod BuildLaws
pub mod ShapeLaws
pub mod Theorems
pub mod Bench
