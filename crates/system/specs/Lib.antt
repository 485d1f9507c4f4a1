pub mod Meaning
pub mod Requests
pub mod Follows
pub mod Faults
pub mod Replies
pub mod Runs
pub mod Marks
