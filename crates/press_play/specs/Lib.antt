pub mod Answers
pub mod Commands
pub mod Faults
pub mod Lines
pub mod Pages
pub mod Played
pub mod Sites
