pub mod Dumped
pub mod Fault
pub mod Halves
pub mod Outline
pub mod Tally
pub mod Telling
pub mod Text
pub mod Walk
