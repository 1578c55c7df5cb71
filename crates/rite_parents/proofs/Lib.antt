pub mod Turns
pub mod Join
pub mod Laid
