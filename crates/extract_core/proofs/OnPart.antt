pub mod DeclaredNext
pub mod Becoming
pub mod FunctionsDeclared
pub mod Numbering
pub mod AliasesDeclared
