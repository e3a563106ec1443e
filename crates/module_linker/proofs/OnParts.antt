pub mod PartStructs
pub mod Bodies
pub mod Given
pub mod Grown
pub mod StructBodies
