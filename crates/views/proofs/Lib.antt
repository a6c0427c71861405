pub mod Seen
pub mod Queues
pub mod Looked
pub mod Ranges
pub mod Once
pub mod Example
