pub mod Following
pub mod Forms
pub mod Lines
pub mod Operators
pub mod Reading
pub mod Rows
