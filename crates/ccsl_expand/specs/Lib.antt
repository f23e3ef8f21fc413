pub mod Numbered
pub mod Seen
pub mod Items
pub mod Expanded
pub mod Bounds
