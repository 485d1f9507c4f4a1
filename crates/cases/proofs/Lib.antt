pub mod Reading
pub mod Classes
pub mod Names
pub mod Belonging
pub mod Places
pub mod Runs
