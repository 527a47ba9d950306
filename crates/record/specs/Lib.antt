pub mod Refusals
pub mod Answers
pub mod Told
