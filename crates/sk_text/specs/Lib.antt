pub mod Hexadecimal
pub mod Lines
pub mod Numbers
pub mod Words
pub mod Counted
pub mod Failures
pub mod Reading
pub mod Writing
