pub mod RangeLaws
pub mod RefusalLaws
pub mod SurePass
pub mod AnswerLaws
pub mod Unique
pub mod ToldLaws
