pub mod Steps
pub mod Loops
pub mod Marks
pub mod Named
pub mod Calls
pub mod Sized
pub mod ShortNumbers
