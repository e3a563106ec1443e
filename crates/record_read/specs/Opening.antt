pub mod Producer
pub mod Table
pub mod Entering
