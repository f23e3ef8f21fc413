pub mod Lengths
pub mod Members
