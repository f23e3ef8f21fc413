pub mod Violations
pub mod Few
pub mod Watching
pub mod Reading
pub mod Following
pub mod Stretch
pub mod Completed
pub mod Taking
