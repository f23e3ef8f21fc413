pub mod Follows
pub mod TickWords
pub mod OpenCalls
pub mod DeathTable
pub mod WalkSteps
