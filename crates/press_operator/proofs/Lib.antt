pub mod Blames
pub mod Sorts
