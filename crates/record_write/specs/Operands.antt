pub mod Numbered
pub mod Wide
