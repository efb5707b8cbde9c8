-- The CRC of 01 and annex A, bytes with their CRC behind them, and what a table must hold for code that goes by it.
pub mod Crc
pub mod Sealed
pub mod Tables
