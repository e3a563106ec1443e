pub mod Addresses
pub mod Entries
pub mod Counted
pub mod Aligned
pub mod Stored
pub mod Mains
pub mod Plans
