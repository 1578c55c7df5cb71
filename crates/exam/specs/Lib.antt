pub mod View
pub mod Part
pub mod Loaded
