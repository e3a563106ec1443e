pub mod Made
pub mod Meant
pub mod Named
pub mod Parts
