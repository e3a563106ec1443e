pub mod Numbers
pub mod Scanning
pub mod Judged
pub mod WholeLine
