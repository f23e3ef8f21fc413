pub mod Levels
pub mod Height
