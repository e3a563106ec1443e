pub mod ArraysTold
pub mod ConstantsRead
pub mod ConstructorsTold
pub mod EntriesFound
pub mod NamesSuit
pub mod NamesTold
