pub mod Placed
pub mod Gathered
pub mod Named
pub mod Fields
pub mod Settled
