pub mod Ascii
pub mod Cuts
pub mod Reading
pub mod Failing
pub mod Taking
pub mod Sending
