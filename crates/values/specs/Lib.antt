pub mod Kinds
pub mod Tokens
pub mod Spelling
pub mod Writers
