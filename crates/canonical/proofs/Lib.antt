mod Rows
mod AliasRows
pub mod OnLaw
pub mod OnModules
pub mod OnReads
