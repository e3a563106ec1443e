pub mod FunctionsThere
pub mod AliasesThere
