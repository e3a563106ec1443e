pub mod Uses
pub mod Agreeing
pub mod Edges
pub mod Classes
pub mod Asked
pub mod Given
pub mod Keys
