mod Came
mod Majorities
mod Places
mod Rings
mod Settled
mod Turns
mod Views
mod Window
