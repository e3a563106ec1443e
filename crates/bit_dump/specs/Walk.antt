pub mod Left
pub mod Passing
pub mod Plain
pub mod Spelling
pub mod Starts
pub mod Values
pub mod Walker
