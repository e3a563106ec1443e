pub mod NamedCalls
pub mod Pieces
