pub mod Output
pub mod Input
