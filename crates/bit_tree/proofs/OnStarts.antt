pub mod Joining
pub mod Rising
pub mod StartLists
pub mod Tables
pub mod Views
