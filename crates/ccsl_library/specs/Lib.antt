pub mod Library
pub mod Members
pub mod Skip
pub mod Laws
