pub mod Table
pub mod Values
pub mod Pairs
pub mod Meaning
pub mod Opened
pub mod Infinite
