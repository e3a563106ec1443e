pub mod Placed
mod Search
pub mod Finds
pub mod Bytes
pub mod Known
pub mod Fills
pub mod ReadBack
pub mod Changed
mod Writes
mod Places
mod Answering
mod Numbers
mod Paged
mod Plain
mod PlainBytes
pub mod OnMasked
pub mod OnPointers
