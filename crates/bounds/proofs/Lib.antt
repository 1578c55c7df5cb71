pub mod Covers
pub mod Parsers
pub mod Sections
pub mod Sums
pub mod Bounds
pub mod Grows
