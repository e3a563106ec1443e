pub mod Aligned
pub mod Sound
pub mod Laid
pub mod Within
pub mod Good
pub mod Sounds
