pub mod Drawn
pub mod Order
pub mod First
pub mod Ranking
