pub mod Hooked
pub mod Keys
pub mod HookRows
pub mod GroupEntries
pub mod NextEntry
pub mod Numbered
pub mod Placed
