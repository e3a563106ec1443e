pub mod Last
pub mod ValuesById
pub mod CallsById
pub mod Given
