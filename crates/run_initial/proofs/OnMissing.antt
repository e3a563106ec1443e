pub mod Picked
pub mod Selecting
pub mod Lacking
pub mod Searched
