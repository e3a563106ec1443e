pub mod Layouts
pub mod TableLaws
pub mod TextsBack
pub mod ConstantsBack
pub mod LinesBack
pub mod InstructionsBack
pub mod EndingsBack
pub mod EveryLine
mod Rows
mod RuleRows
mod TableRows
mod ModuleRows
mod EveryRow
mod OrderRows
