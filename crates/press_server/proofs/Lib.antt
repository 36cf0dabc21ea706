pub mod Delivering
pub mod Fronts
mod Named
mod Samples
