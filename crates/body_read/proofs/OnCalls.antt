pub mod Heads
pub mod Voids
pub mod ParameterTypes
pub mod ArgumentLists
pub mod Calling
pub mod Lines
