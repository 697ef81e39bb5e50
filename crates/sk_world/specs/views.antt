pub mod WorldCode
pub mod Members
pub mod SignalBits
pub mod StateView
