pub mod Chain
pub mod Places
pub mod Globals
pub mod Numbers
pub mod Inside
pub mod Parts
