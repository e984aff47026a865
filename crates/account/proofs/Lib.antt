pub mod Turns
pub mod Walks
pub mod Wholes
