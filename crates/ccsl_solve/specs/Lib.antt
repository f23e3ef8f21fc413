pub mod Under
pub mod Better
pub mod Posed
pub mod Reasons
pub mod Conflict
pub mod Finds
pub mod Plan
pub mod Answers
