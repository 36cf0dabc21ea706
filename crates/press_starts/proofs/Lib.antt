pub mod Histories
pub mod Marks
pub mod Sound
