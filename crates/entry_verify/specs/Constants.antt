pub mod ConstantParts
pub mod FunctionIds
pub mod IsJudge
