pub mod Once
pub mod Among
pub mod OwnSymbols
pub mod Called
pub mod Handed
pub mod CopiedOn
pub mod Stays
