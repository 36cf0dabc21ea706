pub mod Faults
pub mod Ids
pub mod Kept
pub mod PostChange
pub mod Published
pub mod Restored
pub mod Transitions
