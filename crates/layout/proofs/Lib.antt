pub mod Own
pub mod Ends
pub mod Inside
pub mod Back
pub mod Pattern
