pub mod NameLaws
pub mod Repeated
pub mod Splits
