pub mod Reading
pub mod Sizes
pub mod Room
