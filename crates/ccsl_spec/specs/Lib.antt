pub mod Specifications
pub mod Found
pub mod Laws
