pub mod Digests
pub mod Going
pub mod Living
pub mod Members
pub mod Recalling
