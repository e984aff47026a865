pub mod Sorts
pub mod Trees
pub mod Reading
pub mod Rules
pub mod Laws
