pub mod LittleEndian
pub mod Images
pub mod Records
pub mod RecordWords
pub mod OperationTable
