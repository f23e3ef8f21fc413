pub mod Causes
pub mod Replaying
pub mod Certified
pub mod Laws
