pub mod Lines
pub mod Part
pub mod Held
pub mod Steps
pub mod Given
pub mod Laws
