pub mod Tokens
pub mod LongTokens
pub mod Runs
pub mod Lexing
pub mod Digits
pub mod ShortCodes
