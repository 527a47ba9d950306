pub mod TestLaws
pub mod ArithmeticLaws
pub mod AnswerLaws
pub mod Stream
pub mod Running
pub mod Unique
