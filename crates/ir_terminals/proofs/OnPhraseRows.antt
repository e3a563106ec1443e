pub mod ListParts
pub mod Plain
pub mod Chain
pub mod Alt
pub mod Repeated
pub mod Loop
pub mod Machine
pub mod Rules
pub mod Values
pub mod Answer
pub mod Sizes
mod Examples
