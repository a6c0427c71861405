mod Lent
mod Needs
mod Row
mod Ticked
pub mod Telling
pub mod Tallying
