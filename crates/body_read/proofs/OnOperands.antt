pub mod Joined
pub mod Leaves
pub mod Typed
pub mod Gathered
