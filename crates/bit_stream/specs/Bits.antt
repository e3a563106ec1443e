pub mod Bits
pub mod Chunked
pub mod Cursor
pub mod Reading
pub mod Sink
pub mod Writing
