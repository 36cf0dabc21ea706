pub mod Carried
pub mod Heard
