pub mod Takes
pub mod Same
pub mod Undoing
pub mod Filling
pub mod Agreeing
