pub mod Follows
pub mod Telling
pub mod Files
