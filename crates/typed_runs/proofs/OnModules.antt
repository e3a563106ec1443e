pub mod Functions
pub mod Program
pub mod Runs
