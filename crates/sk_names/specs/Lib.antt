pub mod Syscalls
pub mod X86_64
pub mod Elsewhere
pub mod Architectures
pub mod Names
pub mod Numbers
pub mod Worked
