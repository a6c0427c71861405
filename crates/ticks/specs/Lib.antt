pub mod Seated
pub mod Ticks
pub mod Rounds
pub mod Tallied
