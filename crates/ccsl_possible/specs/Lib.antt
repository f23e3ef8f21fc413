pub mod Possible
pub mod Laws
pub mod Ticking
