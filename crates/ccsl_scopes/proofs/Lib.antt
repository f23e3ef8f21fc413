pub mod Codes
pub mod Added
pub mod BracketLaws
pub mod CodeLaws
pub mod VariableLaws
pub mod HoldLaws
pub mod AnswerLaws
mod HeadingExamples
