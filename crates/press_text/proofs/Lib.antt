pub mod Digits
pub mod Escapes
pub mod Fronts
pub mod InCommon
pub mod Mapped
pub mod NameOrder
pub mod Parted
pub mod Taken
mod Words
