mod RecordsPut
pub mod OpeningBack
mod Rereads
mod TypesStep
mod FunctionsBack
mod GlobalsBack
mod AliasesBack
mod GlobalsRead
mod AllBodies
mod TailBack
mod HeadBack
pub mod OneModule
mod Gathered
mod RereadBodies
mod RereadModules
pub mod Joined
pub mod OnContent
pub mod OnBodies
pub mod OnLabels
pub mod OnTypes
pub mod OnFits
pub mod OnAlone
pub mod OnFormed
