pub mod Files
pub mod Listening
pub mod Stores
pub mod Turns
