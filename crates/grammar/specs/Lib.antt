pub mod Grammar
pub mod Walk
pub mod Statements
