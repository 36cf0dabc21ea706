pub mod Comparing
pub mod Handovers
pub mod Kept
pub mod Naming
pub mod Voted
