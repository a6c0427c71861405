pub mod Counting
pub mod Answers
pub mod Reporting
pub mod Proved
