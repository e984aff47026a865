pub mod Trees
pub mod Firing
pub mod Reachable
pub mod Causes
pub mod Laws
