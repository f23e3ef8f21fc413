pub mod Allowed
pub mod Following
