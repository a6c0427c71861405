pub mod Numbers
pub mod Turns
pub mod Slices
pub mod AsCalls
pub mod Proved
