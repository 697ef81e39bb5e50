mod Following
mod Narrow
mod Named
pub mod ReadsBack
