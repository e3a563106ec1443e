pub mod Growing
pub mod Numbered
pub mod Kept
pub mod ListParts
