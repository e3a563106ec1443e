pub mod Done
pub mod Near
