pub mod Stands
pub mod Typed
pub mod Fitting
pub mod Holding
pub mod Declarations
pub mod Parameters
