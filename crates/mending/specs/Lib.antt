pub mod Salvage
pub mod Told
