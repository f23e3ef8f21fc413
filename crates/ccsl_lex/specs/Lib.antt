pub mod Kept
pub mod Tokens
pub mod Runs
pub mod Laws
pub mod Found
pub use Rattle.ccsl_base.specs.Name
pub use Rattle.ccsl_base.specs.Letters
