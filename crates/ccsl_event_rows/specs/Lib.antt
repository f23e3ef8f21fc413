pub mod Times
pub mod ReadsBack
pub mod Planned
pub mod Made
