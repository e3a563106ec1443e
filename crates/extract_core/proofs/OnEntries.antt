pub mod NewIds
pub mod Grounded
