pub mod Entries
pub mod Reading
