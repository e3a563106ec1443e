pub mod Classes
pub mod Judged
pub mod Opened
pub mod TypeFlags
