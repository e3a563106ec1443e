pub mod Told
pub mod Traffic
