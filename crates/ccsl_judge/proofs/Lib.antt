pub mod Sharing
pub mod Combining
pub mod Sending
pub mod Taking
pub mod Weighing
