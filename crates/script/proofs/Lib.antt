pub mod Cutting
pub mod Naming
pub mod Binders
pub mod OneForm
pub mod Filling
pub mod Bytes
