pub mod From
pub mod Reached
pub mod Counted
pub mod Put
pub mod Answered
