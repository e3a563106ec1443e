pub mod Parts
pub mod Ground
pub mod Declared
pub mod Definitions
pub mod NewIds
pub mod Copied
pub mod Filled
