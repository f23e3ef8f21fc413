pub mod HeaderEnd
pub mod Traces
pub mod Feeding
pub mod Stepping
