pub mod Content
pub mod Pieces
pub mod Read
pub mod Stream
pub mod Written
pub mod Starts
pub mod Sizes
