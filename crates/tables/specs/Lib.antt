pub mod Lawful
pub mod Records
pub mod Spellings
pub mod Taking
pub mod Views
pub mod Written
