pub mod Differences
pub mod Extends
pub mod Next
pub mod Parts
