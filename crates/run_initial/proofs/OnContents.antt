pub mod OtherBlocks
pub mod Aligned
pub mod Rooms
pub mod Made
pub mod Holdings
pub mod Stores
pub mod Placed
pub mod Known
