pub mod Faults
pub mod Phases
pub mod Promises
pub mod Proposing
pub mod Queues
pub mod Turns
pub mod Wakes
