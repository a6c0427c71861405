pub mod Walk
pub mod Stays
pub mod Touched
pub mod First
pub mod Wakes
