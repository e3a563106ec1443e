pub mod OnTypes
pub mod OnConstants
pub mod OnEntries
