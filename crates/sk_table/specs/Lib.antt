pub mod Weights
pub mod Beside
pub mod Free
pub mod Slots
pub mod SlotView
pub mod Rows
pub mod ListView
