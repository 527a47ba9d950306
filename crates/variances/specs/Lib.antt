pub mod Fractions
pub mod Deviations
pub mod Answers
pub mod Told
