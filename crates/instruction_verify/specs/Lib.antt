pub mod ArenaOperands
pub mod Parts
pub mod Last
pub mod Uses
