pub mod Ticks
pub mod Falls
pub mod Reached
