-- Carriage: the batch writer (002, clause 6.1; 01, "Carriage: the writer").
pub mod Loads
pub mod Carry
pub mod OnBytes
pub mod Building
pub mod Rows
pub mod Theorems
