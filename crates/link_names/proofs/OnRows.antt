pub mod Firsts
pub mod Fresh
pub mod Rowed
pub mod Parts
pub mod Avoiding
pub mod Adding
pub mod Ending
