pub mod FractionLaws
pub mod DeviationLaws
pub mod FigureLaws
pub mod AnswerLaws
pub mod Bounds
pub mod Unique
