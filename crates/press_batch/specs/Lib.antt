pub mod Carried
pub mod Fields
pub mod Held
pub mod Memory
pub mod Reading
pub mod Refusals
pub mod Spelling
