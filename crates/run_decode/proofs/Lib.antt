mod Meant
mod Called
mod Rowed
mod Told
pub mod OnScopes
pub mod OnFlat
pub mod OnSignatures
pub mod OnBody
pub mod OnOperands
pub mod OnSuits
