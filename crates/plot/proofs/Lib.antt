pub mod Grid
pub mod Doubles
pub mod DrawnLaws
pub mod DotLaws
pub mod Unique
