pub mod Parts
pub mod NamesGathered
pub mod Shapes
pub mod ConstantShapes
pub mod OnOrder
pub mod OnEnds
