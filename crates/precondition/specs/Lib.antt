pub mod Signs
pub mod Places
pub mod Tables
pub mod Parts
pub mod Writing
pub mod Steps
pub mod Laws
