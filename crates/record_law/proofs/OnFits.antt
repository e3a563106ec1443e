pub mod Among
pub mod ConstantsFit
pub mod LinesFit
pub mod LabelsFit
pub mod BodiesFit
pub mod EntriesFit
pub mod ModulesFit
