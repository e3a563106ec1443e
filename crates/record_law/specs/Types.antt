pub mod ReadTypes
pub mod Laws
