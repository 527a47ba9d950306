pub mod Drawn
pub mod Dots
pub mod Told
