pub mod Lists
pub mod Ahead
pub mod Tallies
