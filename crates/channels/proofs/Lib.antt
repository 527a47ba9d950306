pub mod ChannelLaws
pub mod ShareLaws
pub mod Unique
pub mod HeldLaws
