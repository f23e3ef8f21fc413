pub mod Cases
pub mod Picked
pub mod Words
pub mod Differences
pub mod Tables
pub mod ReservedWords
pub mod Digits
pub mod Sets
pub mod Ascending
mod Taking
