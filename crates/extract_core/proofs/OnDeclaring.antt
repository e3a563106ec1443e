pub mod StaysDeclared
pub mod EmptyArrays
pub mod Becoming
pub mod Room
pub mod Declared
pub mod NewIds
pub mod Filled
pub mod VariablesDeclared
