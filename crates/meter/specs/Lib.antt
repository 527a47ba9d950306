pub mod Meter
pub mod Answers
pub mod Told
