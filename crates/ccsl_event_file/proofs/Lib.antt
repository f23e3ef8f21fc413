pub mod Lexing
pub mod Ahead
pub mod Bits
pub mod Story
pub mod Paths
pub mod Statements
pub mod Steps
