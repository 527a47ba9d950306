pub mod Published
pub mod Answers
pub mod Told
