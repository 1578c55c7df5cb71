pub mod Nodes
pub mod Pass
