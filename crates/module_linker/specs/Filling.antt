pub mod Elements
pub mod Filling
pub mod Origins
pub mod Standing
