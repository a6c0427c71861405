pub mod Buffers
pub mod Counting
pub mod Held
