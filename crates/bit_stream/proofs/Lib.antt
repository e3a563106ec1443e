pub mod Loops
pub mod Forward
pub mod Opening
pub mod Progress
pub mod ReadBack
pub mod Spelled
pub mod DefinitionsInFront
pub mod OnBits
