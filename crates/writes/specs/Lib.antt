pub mod Written
pub mod Zeroed
