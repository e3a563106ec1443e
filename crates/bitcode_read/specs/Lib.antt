pub mod Answers
pub mod Opening
pub mod Sofar
pub mod Head
pub mod Ahead
pub mod Entry
pub mod Holding
