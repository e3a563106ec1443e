pub mod BitsLaws
pub mod Words
pub mod Chunks
pub mod Appends
pub mod RoundTrip
pub mod ReaderSteps
pub mod Places
