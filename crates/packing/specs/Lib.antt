pub mod Packed
pub mod Placing
