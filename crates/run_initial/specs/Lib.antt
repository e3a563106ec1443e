pub mod Constants
pub mod Initial
pub mod Contents
pub mod Missing
