pub mod Naming
pub mod Shapes
pub mod Structs
pub mod Rows
pub mod Counts
