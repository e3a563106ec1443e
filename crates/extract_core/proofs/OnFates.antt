pub mod ByFates
