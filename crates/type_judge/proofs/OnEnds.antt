pub mod Searching
pub mod Holding
pub mod Bridge
pub mod Rising
