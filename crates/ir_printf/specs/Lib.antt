pub mod Pattern
pub mod Printed
