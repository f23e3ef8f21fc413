pub mod Codes
pub mod Finding
pub mod Gathering
pub mod Declaring
pub mod Binds
pub mod Above
pub mod Walking
