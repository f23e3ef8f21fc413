pub mod Binding
pub mod Refusing
pub mod Running
pub mod Ending
pub mod Stepping
pub mod Giving
