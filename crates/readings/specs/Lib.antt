pub mod Readings
pub mod Answers
pub mod Told
