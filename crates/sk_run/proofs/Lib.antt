pub mod Following
pub mod Placing
pub mod Children
pub mod Underway
pub mod Delivering
pub mod Happening
pub mod Running
pub mod ReportRows
