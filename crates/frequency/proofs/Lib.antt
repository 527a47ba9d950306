pub mod FrequencyLaws
pub mod RoundTrip
pub mod Unique
