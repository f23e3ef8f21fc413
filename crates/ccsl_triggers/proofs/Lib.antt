pub mod Quiet
pub mod Alike
