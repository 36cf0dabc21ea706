pub mod Carrying
pub mod Loops
pub mod Requests
pub mod Responses
