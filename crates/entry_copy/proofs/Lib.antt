mod Moving
mod Keeping
pub mod TypesCopied
pub mod ConstantsCopied
pub mod Starting
pub mod OnStructs
