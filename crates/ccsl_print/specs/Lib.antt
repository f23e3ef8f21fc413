pub mod CanonicalText
pub mod Pages
pub mod ReadsBack
