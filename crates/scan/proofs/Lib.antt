pub mod First
mod Listed
mod Places
mod Marks
mod Going
