pub mod Codes
pub mod Candidates
pub mod Slots
pub mod Bindings
pub mod Collected
pub mod Gathered
