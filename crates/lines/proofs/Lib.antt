mod Cutting
mod Yielding
