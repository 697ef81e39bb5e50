pub mod WorkedIds
pub mod WaitLaws
pub mod WorldLaws
pub mod SetMembers
pub mod SignalNumbers
pub mod WorkedSignals
