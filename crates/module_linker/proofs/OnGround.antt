pub mod Whole
pub mod PartTypes
pub mod Beginning
pub mod Adding
pub mod Ending
