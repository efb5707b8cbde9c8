-- T2-MI packets (002, clause 5.1; 01, "T2-MI packet").
pub mod Layout
pub mod Read
pub mod Write
pub mod Cut
pub mod Rows
