pub mod Reading
pub mod Clauses
