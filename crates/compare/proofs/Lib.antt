pub mod QuieterLaws
pub mod Unique
