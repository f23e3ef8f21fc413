pub mod Declared
pub mod Fed
pub mod Rereading
pub mod Counted
