pub mod Cuts
pub mod Placements
