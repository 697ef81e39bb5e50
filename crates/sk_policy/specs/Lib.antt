pub mod Policies
pub mod Sizes
pub mod Code
pub mod Emitting
