pub mod Lists
pub mod Results
pub mod Sounds
pub mod Asks
pub mod Bodies
