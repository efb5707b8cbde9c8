-- DVB-T2 timestamp payloads (002, clause 5.2.7; 01, "Timestamp and addressing payloads").
pub mod Layout
pub mod Read
pub mod Write
