pub mod Fields
pub mod Lists
pub mod Found
pub mod Memory
pub mod Opcodes
