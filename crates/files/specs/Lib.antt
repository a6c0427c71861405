pub mod Bytes
pub mod PlanFiles
