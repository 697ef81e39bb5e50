pub mod SyscallTable
pub mod Places
pub mod NativeNames
pub mod Numbering
pub mod Lookups
pub mod Listing
pub mod Named
pub mod Naming
