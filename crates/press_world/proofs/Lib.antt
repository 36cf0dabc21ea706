mod Acting
mod Changed
mod Counting
mod Counts
mod Entries
mod Events
mod Growing
pub mod Lists
pub mod Looking
pub mod Members
mod Nodes
pub mod Onward
pub mod Outcomes
mod Playing
mod Proposals
mod Readings
mod Refused
pub mod Replayed
pub mod Started
mod Steps
mod Stored
mod Taking
mod Told
mod Turned
mod Vectors
mod Votes
mod Wholes
mod Worlds
