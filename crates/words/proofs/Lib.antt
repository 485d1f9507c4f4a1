mod Capped
mod Numerals
mod Points
mod Written
mod Found
pub mod Spaced
mod Holds
mod Labels
mod Listed
pub mod Rule
