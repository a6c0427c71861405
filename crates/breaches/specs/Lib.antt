pub mod Order
pub mod First
pub mod Broken
