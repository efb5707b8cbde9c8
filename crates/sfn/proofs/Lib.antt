-- The laws of the C functions, for their own proofs and for readers.
pub mod CountLaws
pub mod ReaderLaws
