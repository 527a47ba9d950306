pub mod NoiseLaws
pub mod BarLaws
pub mod Answered
pub mod Unique
