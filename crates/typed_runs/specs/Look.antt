pub mod Typings
pub mod Laws
