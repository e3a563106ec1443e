pub mod Buffers
pub mod Written
pub mod Taken
