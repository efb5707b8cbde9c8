-- The functions of individual addressing (000, clause 6.1; 01, "Timestamp and addressing payloads").
pub mod Tags
pub mod Function
pub mod Read
pub mod Write
pub mod Rows
