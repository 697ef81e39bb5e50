pub mod Bits
pub mod KnownWords
pub mod KnownStates
pub mod Rising
pub mod Reaching
pub mod WithoutOthers
pub mod Settling
pub mod Narrower
pub mod Telling
pub mod Merging
pub mod Preceding
pub mod ChainEnds
pub mod WorkedRows
pub mod WorkedCuts
pub mod Cutting
pub mod Tainting
pub mod Turns
pub mod Standing
pub mod Pieces
pub mod JoinedRows
mod Alike
pub mod ByArchitecture
pub mod Chains
mod Meanings
pub mod Unseen
pub mod Without
pub mod TakenCalls
mod Valid
pub mod Words
pub mod EachCall
pub mod Settled
pub mod Worked
mod OtherCalls
