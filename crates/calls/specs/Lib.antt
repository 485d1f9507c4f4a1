pub mod Books
pub mod Asks
pub mod Levels
