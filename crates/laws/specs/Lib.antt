pub mod Sums
pub mod Lists
pub mod Greatest
pub mod Single
pub mod Nearest
