pub mod Lineages
pub mod OfProcess
pub mod Blocked
pub mod Noting
pub mod Returned
pub mod Own
