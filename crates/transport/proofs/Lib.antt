-- The laws of transport packets, for the writer and the reader.
pub mod HeaderLaws
pub mod LookLaws
pub mod LoadLaws
