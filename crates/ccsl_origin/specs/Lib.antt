pub mod Offsets
pub mod Passing
