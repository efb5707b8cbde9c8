-- Decimal numbers, words and lines as text in a lent buffer, over any listing.
pub mod Digits
pub mod Laid
