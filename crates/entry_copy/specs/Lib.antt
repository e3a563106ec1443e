pub mod Tables
pub mod Moved
pub mod Copies
pub mod Initialisers
