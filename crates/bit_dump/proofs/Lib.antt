mod Joined
pub mod Sinks
mod Spilling
pub mod Telling
pub mod Told
pub mod OnWalk
