pub mod OnConstants
pub mod OnInstructions
