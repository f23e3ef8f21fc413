mod Good
mod Parts
mod Many
mod Steps
mod Leaves
mod Exprs
mod Lines
mod Definitions
mod Files
mod Outcome
mod CompleteLeaves
mod CompleteExprs
mod CompleteLines
mod Depth
pub mod Least
pub mod Verdict
pub mod Canonical
pub mod Keeps
mod Blind
pub mod Bare
pub mod Spelled
pub mod Loop
pub mod Parsed
mod Examples
