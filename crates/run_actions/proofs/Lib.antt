pub mod Carried
pub mod Going
pub mod Wide
pub mod OnStack
pub mod OnAccesses
pub mod OnSlots
pub mod OnEnds
pub mod OnHosts
