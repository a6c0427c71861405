pub mod Spans
pub mod Machines
