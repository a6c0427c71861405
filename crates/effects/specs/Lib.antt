pub mod Parts
pub mod Worked
pub mod Holding
pub mod Carrying
