pub mod Assembled
pub mod Ended
pub mod Written
pub mod Standing
pub mod Lists
pub mod Taking
pub mod Gathered
