pub mod Bytes
pub mod File
pub mod Reading
pub mod Writing
pub mod Kinds
pub mod Told
