pub mod Since
pub mod Operators
pub mod Course
pub mod Held
pub mod Columns
