pub mod ConstantsKnown
pub mod FunctionNames
pub mod LeadsTold
pub mod ListsTold
pub mod OwnTold
pub mod PartsTold
pub mod WholeTold
