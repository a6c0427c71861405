pub mod Lanes
pub mod Many
