pub mod Reading
pub mod Runs
pub mod Constants
pub mod Naming
pub mod Laws
pub mod Worked
