pub mod Entries
pub mod Bodies
