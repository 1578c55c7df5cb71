pub mod Loaded
pub mod Keeping
