pub mod Lines
pub mod Rows
pub mod Steps
pub mod Judged
