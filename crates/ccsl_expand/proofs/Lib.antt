pub mod Lookups
pub mod Callees
pub mod Walks
pub mod Nested
pub mod Whole
