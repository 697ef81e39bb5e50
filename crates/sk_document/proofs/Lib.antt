pub mod WorkedValues
pub mod WorkedDocuments
pub mod WorkedReplays
pub mod WorkedWhys
pub mod Values
pub mod DocumentValues
pub mod PlainTexts
pub mod WorkedPages
