pub mod Answered
pub mod TreeCells
pub mod Weighed
