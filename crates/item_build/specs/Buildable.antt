pub mod Narrow
pub mod Bodies
pub mod Entries
pub mod Laws
