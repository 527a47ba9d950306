pub mod Drift
pub mod Told
