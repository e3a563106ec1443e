pub mod Decimals
pub mod Joined
pub mod Short
mod Letters
