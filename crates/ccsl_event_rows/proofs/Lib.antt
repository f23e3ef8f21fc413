pub mod Numbers
pub mod Rows
pub mod Times
pub mod Binding
pub mod Header
pub mod ReadBack
pub mod Timescales
pub mod Planned
pub mod Examples
mod Made
