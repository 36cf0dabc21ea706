pub mod Files
pub mod Hearings
pub mod Histories
pub mod Peers
pub mod Witnesses
