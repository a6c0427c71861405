pub mod Balance
pub mod Waiting
mod Seen
