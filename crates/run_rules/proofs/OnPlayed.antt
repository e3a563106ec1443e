pub mod Fronts
pub mod Longer
pub mod Few
pub mod Whole
