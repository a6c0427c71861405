pub mod Copied
pub mod Counted
