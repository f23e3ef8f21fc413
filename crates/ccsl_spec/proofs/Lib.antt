pub mod One
pub mod Faults
pub mod Existing
