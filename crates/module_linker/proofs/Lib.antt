pub mod Linkable
pub mod Told
pub mod OnHead
pub mod OnParts
pub mod OnGround
pub mod OnEntries
pub mod OnIds
pub mod OnFilling
