pub mod Chain
pub mod Text
pub mod Laws
