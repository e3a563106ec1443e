pub mod Bodies
pub mod Empty
