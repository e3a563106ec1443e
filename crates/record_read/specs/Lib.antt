pub mod Reader
pub mod Entries
pub mod Faults
pub mod Fields
pub mod Counts
pub mod Opening
pub mod Order
