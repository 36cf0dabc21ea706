pub mod Again
pub mod Fitting
pub mod Found
pub mod Lengths
pub mod Pushing
pub mod Taken
