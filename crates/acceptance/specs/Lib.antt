pub mod Figures
pub mod Noughts
pub mod Promises
pub mod Grounds
pub mod Calls
pub mod Channels
