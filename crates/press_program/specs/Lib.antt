pub mod Endings
pub mod Exports
pub mod KitFiles
pub mod Nexts
pub mod Reasons
pub mod Words
