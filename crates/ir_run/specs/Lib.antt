pub mod Constructors
pub mod Arguments
pub mod Opens
pub mod Seen
pub mod Living
pub mod Stretch
pub mod Fresh
pub mod Opened
