pub mod Stacks
pub mod State
