pub mod Printing
pub mod Numerals
pub mod Quoting
pub mod TypeParts
pub mod FlagWords
pub mod Parts
