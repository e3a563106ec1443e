pub mod Said
pub mod Made
pub mod Dues
pub mod Acting
pub mod Classes
pub mod Program
