pub mod Partly
pub mod Named
pub mod Declaring
pub mod Completing
pub mod Texts
pub mod Places
pub mod Types
pub mod Buildable
