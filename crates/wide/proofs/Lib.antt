pub mod WideLaws
pub mod ThreeWordLaws
pub mod Divisions
pub mod Roots
pub mod Unique
