pub mod Judged
pub mod Shares
pub mod Divided
pub mod Going
pub mod Weights
