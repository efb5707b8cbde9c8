-- The listing's text (01, "Listing program").
pub mod Lines
pub mod Pieces
pub mod Listing
pub mod Theorems
pub mod Rows
