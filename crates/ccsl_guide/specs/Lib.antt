pub mod Named
pub mod Moves
pub mod Fits
