pub mod Verified
pub mod Bodies
pub mod Ready
pub mod Heads
pub mod Pieces
