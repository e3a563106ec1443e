pub mod Grammar
pub mod Depth
pub mod Leaves
pub mod BehindComma
pub mod Gives
pub mod Formed
