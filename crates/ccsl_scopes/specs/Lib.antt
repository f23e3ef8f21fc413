pub mod Selects
pub mod Paths
pub mod Codes
pub mod References
pub mod Headings
pub mod Standing
