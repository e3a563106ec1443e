pub mod Met
pub mod Numbers
