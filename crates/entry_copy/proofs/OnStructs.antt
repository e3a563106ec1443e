pub mod StructsNamed
pub mod StructsDefined
