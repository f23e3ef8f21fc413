pub mod Code
pub mod Digits
pub mod Text
pub mod ReadsBack
pub mod Room
