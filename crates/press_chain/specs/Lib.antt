pub mod Chains
pub mod Comparing
pub mod Feeding
