pub mod Zeros
pub mod Digits
pub mod Signs
pub mod Halves
pub mod Flagged
pub mod Nearest
pub mod ResultKinds
