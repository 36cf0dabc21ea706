pub mod Keeping
pub mod Oldest
pub mod Once
pub mod Order
pub mod SameIds
pub mod Taking
pub mod Vectors
