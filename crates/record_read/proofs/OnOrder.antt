pub mod Recorded
pub mod Numbered
pub mod Dues
pub mod Endings
pub mod Texts
