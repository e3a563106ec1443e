pub mod NewIds
pub mod Stages
