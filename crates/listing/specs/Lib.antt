pub mod Columns
pub mod Sheet
pub mod Told
