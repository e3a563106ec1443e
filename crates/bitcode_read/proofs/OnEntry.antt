pub mod Ended
pub mod Initialisers
pub mod Fields
pub mod Layouts
pub mod Answered
