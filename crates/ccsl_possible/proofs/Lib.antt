pub mod Solving
pub mod Choosing
pub mod Failing
