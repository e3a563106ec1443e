pub mod Naming
pub mod Fates
pub mod Declaring
pub mod Part
pub mod Entries
pub mod Defining
