-- What the standards mean by a field: widths, numbers in bytes, signed numbers, and bytes laid over bytes.
pub mod Formats
pub mod Numbers
pub mod Signed
pub mod Parts
