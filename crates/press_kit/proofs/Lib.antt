pub mod Kits
pub mod Texts
pub mod Keys
pub mod Loop
