pub mod Table
pub mod Bodies
pub mod Order
pub mod Kept
pub mod Written
pub mod Known
