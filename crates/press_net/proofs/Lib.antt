mod Lanes
mod Counted
mod Found
mod Sent
pub mod Padding
pub mod Credited
mod Pieces
