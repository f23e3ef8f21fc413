mod Letters
mod Slices
mod Settling
mod Chains
mod Kept
mod Names
mod Standing
mod Run
mod Quick
mod Canonical
mod Tables
mod Changes
mod Examples
pub mod Feeding
pub mod Whole
pub mod Opening
mod Sources
mod Bindings
mod Linking
mod Users
mod Beginning
mod Meanings
mod WholeFile
mod BindingExamples
