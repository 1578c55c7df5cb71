pub mod Choices
pub mod Moves
pub mod Children
