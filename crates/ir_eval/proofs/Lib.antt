pub mod Words
pub mod Exact
pub mod Compared
pub mod Scaled
pub mod Quotients
pub mod Ranges
