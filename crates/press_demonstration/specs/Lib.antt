pub mod Demonstration
