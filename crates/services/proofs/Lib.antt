pub mod Needs
pub mod Spent
