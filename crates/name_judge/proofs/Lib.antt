mod Firsts
mod Counted
mod InOrder
mod SeenItem
mod Parameters
mod Bodies
mod DistinctNames
pub mod OnLocals
