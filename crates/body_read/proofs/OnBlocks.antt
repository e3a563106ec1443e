pub mod Closing
pub mod Ended
pub mod Blocked
pub mod Parametered
pub mod Missing
pub mod Lined
