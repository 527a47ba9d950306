pub mod ReadingLaws
pub mod BitLaws
pub mod RefusalLaws
pub mod AnswerLaws
pub mod Unique
