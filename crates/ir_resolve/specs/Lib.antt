pub mod Defining
pub mod Whole
pub mod Built
pub mod InstructionBuild
pub mod BuildsWell
pub mod ReadsNarrow
