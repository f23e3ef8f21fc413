pub mod Word
pub mod Offsets
pub mod Spelling
pub mod Reads
pub mod Fault
pub mod Verdict
pub mod Front
