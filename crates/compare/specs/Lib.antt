pub mod Quieter
pub mod Told
