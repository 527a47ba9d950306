pub mod KeptLaws
pub mod KeepCases
pub mod SalvageCases
pub mod StoredLaws
pub mod Salvaged
pub mod LongerLaws
pub mod Unique
