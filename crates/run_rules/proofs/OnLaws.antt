pub mod Grows
pub mod Reached
pub mod BeforeReads
pub mod RunsInSteps
pub mod SameConstants
pub mod SameOperations
pub mod SameBlocks
pub mod SameLook
