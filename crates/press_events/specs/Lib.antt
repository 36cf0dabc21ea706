pub mod DueEvents
pub mod Faults
pub mod Marks
pub mod Shifts
