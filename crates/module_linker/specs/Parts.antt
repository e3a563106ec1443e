pub mod Named
pub mod Bodies
