pub mod Counting
pub mod Desk
pub mod Metrics
pub mod Paths
pub mod Reasons
pub mod Screening
