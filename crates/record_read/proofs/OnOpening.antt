pub mod Answering
pub mod Naming
pub mod Fronts
pub mod Tables
pub mod Ways
