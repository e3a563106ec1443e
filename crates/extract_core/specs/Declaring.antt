pub mod Stages
pub mod Declaring
pub mod Emptied
