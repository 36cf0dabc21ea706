pub mod Apply
pub mod Copies
pub mod Earlier
pub mod Faults
pub mod Kinds
pub mod Same
pub mod Tokens
pub mod Works
