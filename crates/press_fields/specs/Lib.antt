pub mod Commands
pub mod Fields
pub mod Memory
