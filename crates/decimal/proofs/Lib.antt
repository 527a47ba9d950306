pub mod DigitLaws
pub mod Meaning
pub mod ReadBack
pub mod Unique
