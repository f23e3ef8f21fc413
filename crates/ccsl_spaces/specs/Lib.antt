pub mod Places
pub mod Knowns
pub mod Callees
