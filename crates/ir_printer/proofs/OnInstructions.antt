pub mod Cases
pub mod Known
pub mod Results
pub mod Chained
pub mod Dotted
pub mod Listing
pub mod Locals
