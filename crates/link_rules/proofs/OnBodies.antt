pub mod ReadShapes
pub mod SameBodies
