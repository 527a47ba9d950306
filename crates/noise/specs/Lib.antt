pub mod Noise
pub mod Bars
pub mod Told
