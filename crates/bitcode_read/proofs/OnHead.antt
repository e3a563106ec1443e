pub mod Walked
pub mod Named
pub mod FrontsRead
pub mod Finding
pub mod Gathering
