pub mod Cuts
pub mod Cells
pub mod Rooms
pub mod Rows
pub mod Steps
pub mod Widths
pub mod Weights
pub mod Heads
