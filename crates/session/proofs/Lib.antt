pub mod ReadForms
pub mod Came
