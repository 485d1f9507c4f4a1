pub mod Scripts
pub mod Cases
pub mod Outcomes
