pub mod Made
pub mod Nesting
pub mod Slotted
