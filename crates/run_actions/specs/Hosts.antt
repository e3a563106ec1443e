pub mod Made
pub mod Taken
pub mod Printing
pub mod Pieces
