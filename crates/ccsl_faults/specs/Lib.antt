pub mod Causes
pub mod Scenes
pub mod Homes
pub mod Levels
pub mod Parts
