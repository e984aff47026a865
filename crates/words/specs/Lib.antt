pub mod Repeats
pub mod Words
