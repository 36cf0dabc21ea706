pub mod Entries
pub mod Exports
pub mod Lines
pub mod Splitting
pub mod Standing
