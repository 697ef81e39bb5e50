pub mod Refusing
pub mod Shown
pub mod Faults
pub mod Sizes
pub mod InPlace
pub mod Expecting
pub mod WorkedEndings
pub mod Said
pub mod Architectures
mod Troubles
pub mod Given
pub mod Wholes
pub mod Among
pub mod Standing
pub mod Images
pub mod Orders
pub mod Commas
pub mod Told
pub mod Unchecked
pub mod Two
pub mod Decided
pub mod Logs
mod Judged
