pub mod Active
pub mod Applied
pub mod Onward
pub mod Refused
pub mod Shown
pub mod Telling
