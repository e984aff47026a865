pub mod Faults
pub mod Keys
pub mod Lines
