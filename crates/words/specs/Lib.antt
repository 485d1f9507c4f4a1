pub mod Spelling
pub mod Keywords
pub mod Numbers
pub mod Leaves
pub mod Sheets
