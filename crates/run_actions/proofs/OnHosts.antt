pub mod ByKinds
pub mod Rows
pub mod Typed
pub mod Told
pub mod ByLeaves
pub mod Walked
pub mod Put
