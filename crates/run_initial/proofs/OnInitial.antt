pub mod Puts
pub mod Leaves
pub mod Lists
pub mod Sounds
pub mod Parts
pub mod Ordered
pub mod Fresh
