pub mod Applies
pub mod Built
pub mod Known
pub mod Pages
pub mod Parts
pub mod Runs
pub mod Tables
pub mod Whole
