pub mod Ending
pub mod Chaining
mod Parsing
