pub mod Tokens
pub mod Fronts
pub mod Values
pub mod Letters
pub mod File
pub mod Parsing
