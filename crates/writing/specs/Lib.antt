pub mod Appending
pub mod Forms
pub mod Said
pub mod Written
pub mod Sound
pub mod Laws
