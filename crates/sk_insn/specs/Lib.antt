pub mod Actions
pub mod Operations
pub mod Instructions
pub mod Record
