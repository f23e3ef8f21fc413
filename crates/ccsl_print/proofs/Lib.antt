pub mod Steps
pub mod Turns
pub mod PageText
pub mod Pieces
pub mod Cut
pub mod ReadBack
