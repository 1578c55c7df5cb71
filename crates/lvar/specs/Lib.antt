pub mod Names
pub mod Section
