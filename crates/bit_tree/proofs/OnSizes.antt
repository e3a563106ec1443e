pub mod Grows
pub mod Weights
pub mod Kept
pub mod Plainly
pub mod Bytewise
pub mod Wholes
