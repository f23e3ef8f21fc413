pub mod Following
pub mod Taking
pub mod Deadlocks
pub mod Sets
pub mod Unread
