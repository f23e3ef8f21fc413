pub mod Fed
pub mod OnlyReads
pub mod Following
pub mod Leaving
pub mod LastSteps
pub mod Counting
pub mod Pending
