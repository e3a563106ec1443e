pub mod Changed
pub mod Filled
pub mod Initialisers
pub mod Bodies
pub mod NextEntry
