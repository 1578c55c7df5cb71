pub mod View
pub mod Tables
pub mod Steps
pub mod Walks
pub mod Samples
