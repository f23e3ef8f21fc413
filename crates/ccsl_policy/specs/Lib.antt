pub mod Words
pub mod Generator
pub mod Priority
pub mod Better
pub mod Chosen
pub mod Ranks
