pub mod State
pub mod views
pub mod Targets
pub mod Requests
pub mod Deeds
pub mod Rows
