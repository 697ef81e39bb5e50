pub mod Faults
pub mod Grammar
pub mod Reading
pub mod Scenario
pub mod laws
pub mod Answers
pub mod views
