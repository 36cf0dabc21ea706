pub mod Blocks
pub mod Casts
pub mod Codec
pub mod Collected
pub mod FieldLaws
pub mod Lengths
pub mod MessageLaws
pub mod Names
pub mod Pairs
pub mod Puts
pub mod Reports
pub mod ValueLaws
mod Vectors
