pub mod Chosen
pub mod Codes
pub mod InRing
pub mod Kept
