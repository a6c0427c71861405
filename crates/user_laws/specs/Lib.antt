pub mod Folded
pub mod Taken
pub mod Once
pub mod Words
pub mod Slots
pub mod Asked
