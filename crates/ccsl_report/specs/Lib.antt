pub mod Line
pub mod Texts
pub mod Room
pub mod Parts
