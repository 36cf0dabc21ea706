pub mod Desk
pub mod Earlier
pub mod Json
pub mod Page
pub mod Rendering
pub mod Steps
pub mod Targets
pub mod Template
