pub mod Comparing
pub mod Faults
pub mod Lints
pub mod Policies
pub mod Profiles
pub mod Shapes
pub mod Texts
pub mod Writing
