mod Hearing
mod Owing
mod Samples
mod Waits
