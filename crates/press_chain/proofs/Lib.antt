mod Fronts
pub mod Keeping
mod Pieces
mod Telling
