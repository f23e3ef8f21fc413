pub mod Splits
pub mod Fronts
pub mod OneMore
pub mod Letters
pub mod Faults
pub mod Verdicts
pub mod Reading
pub mod Stripped
