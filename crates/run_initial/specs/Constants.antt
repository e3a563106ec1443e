pub mod Filled
pub mod Laws
pub mod Places
pub mod Sound
