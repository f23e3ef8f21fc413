mod Lists
mod Places
pub mod Turns
