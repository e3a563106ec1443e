pub mod Marks
pub mod Placed
pub mod Numbers
pub mod Puts
pub mod Steps
pub mod WordLists
