pub mod Counted
pub mod Growing
pub mod Heads
pub mod Loading
pub mod Made
