pub mod Floors
pub mod DriftLaws
pub mod UnderLaws
pub mod Unique
