pub mod Asked
pub mod OnTheWay
pub mod Unlabelled
