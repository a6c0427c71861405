pub mod Tokens
pub mod Kept
pub mod Sums
pub mod Lines
pub mod Texts
pub mod Printing
pub mod Promises
