pub mod ClassesTold
pub mod Flags
pub mod Judging
pub mod OpenedTold
