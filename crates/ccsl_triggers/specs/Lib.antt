pub mod Sized
pub mod Views
pub mod Triggers
pub mod Output
pub mod Held
