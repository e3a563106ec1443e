pub mod Growth
pub mod Spanned
