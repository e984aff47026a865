pub mod Truth
pub mod Occurring
pub mod Sorts
pub mod Replacing
pub mod Firings
pub mod Invariants
