pub mod Leads
pub mod Passing
pub mod Rows
