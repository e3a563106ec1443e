pub mod FittingBodies
pub mod Laws
