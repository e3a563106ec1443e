pub mod GivenInOrder
pub mod Filling
