mod Steps
mod Marking
mod Adding
mod Following
