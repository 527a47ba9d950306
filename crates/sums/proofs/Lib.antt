pub mod PublishedLaws
pub mod SquareLaws
pub mod BlockLaws
pub mod TotalLaws
pub mod AnswerLaws
pub mod Shifted
pub mod Variances
pub mod Unique
