pub mod Chain
pub mod Lined
mod Viewed
mod Fitting
mod Blocks
mod Sound
mod TableBytes
mod TypeLines
mod ByteBlock
mod Finished
mod Whole
pub mod OnLines
