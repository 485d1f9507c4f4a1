pub mod Words
pub mod Lines
pub mod Texts
pub mod Readings
