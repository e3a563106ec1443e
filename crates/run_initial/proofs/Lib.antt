pub mod OnConstants
pub mod OnInitial
pub mod OnContents
pub mod OnMissing
