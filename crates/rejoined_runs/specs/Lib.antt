pub mod Regrouped
pub mod Conflicts
pub mod Regroups
pub mod Runs
pub mod Halves
