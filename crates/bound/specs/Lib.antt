pub mod Bound
pub mod Measure
pub mod Line
pub mod Ticks
