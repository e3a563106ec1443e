pub mod Defined
pub mod Few
pub mod Whole
mod Partial
mod Numbers
mod Meaning
mod Staying
mod Order
mod WholeBody
pub mod OnInstructionBuild
pub mod OnBuildsWell
pub mod OnReadsNarrow
