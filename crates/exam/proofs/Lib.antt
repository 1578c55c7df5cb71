pub mod Turns
pub mod Join
