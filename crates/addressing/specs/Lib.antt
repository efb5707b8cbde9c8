-- Individual addressing (000, table 1b and clause 6.1; 002, clause 5.2.8; 01, "Timestamp and addressing payloads").
pub mod Data
pub mod Payload
pub mod Walk
pub mod Steps
pub mod Groups
pub mod Cursor
pub mod Rows
