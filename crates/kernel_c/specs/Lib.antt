pub mod Answers
pub mod Views
pub mod Breaches
pub mod Counts
pub mod Promises
