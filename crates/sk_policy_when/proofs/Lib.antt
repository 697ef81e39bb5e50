pub mod Again
mod Cutting
mod Named
mod Values
mod Masks
mod Comparing
mod Wording
pub mod Choosing
mod Splitting
mod Broken
pub mod Filling
mod Solid
mod Sentencing
mod Starting
pub mod Texting
mod Finding
pub mod Verdicts
pub mod Making
pub mod Counting
pub mod OtherVerdicts
pub mod Ruled
pub mod Answering
pub mod Narrowed
pub mod NarrowingRows
mod AllowingSentences
pub mod Allowed
pub mod AllowingExamples
