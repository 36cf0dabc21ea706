pub mod Best
pub mod Greatest
