pub mod Sweep
pub mod Spelt
pub mod Back
pub mod Proved
pub mod Orders
pub mod Impostors
