pub mod Checked
pub mod Equal
pub mod Lookups
pub mod Profiled
pub mod Refusals
pub mod Settled
pub mod Ticks
pub mod Tokens
