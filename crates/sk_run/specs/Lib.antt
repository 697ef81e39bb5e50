pub mod Reporting
pub mod views
pub mod laws
pub mod Running
pub mod Levels
pub mod Scheduling
pub mod Text
pub mod Report
