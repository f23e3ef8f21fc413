pub mod Looking
pub mod Fronts
pub mod Parts
pub mod Taken
pub mod Going
pub mod Reading
pub mod Searching
