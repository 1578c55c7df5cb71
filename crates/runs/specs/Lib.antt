pub mod Stack
pub mod Places
