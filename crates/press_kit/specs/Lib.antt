pub mod Fields
pub mod KitFile
pub mod Memory
pub mod Ops
pub mod Places
pub mod PlayFile
pub mod Refusals
pub mod SiteFile
