pub mod FirstFree
mod Hints
mod Numbers
pub mod Avoided
pub mod Given
pub mod OnShapes
pub mod OnStructs
pub mod OnRows
pub mod OnCounts
