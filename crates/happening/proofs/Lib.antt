pub mod AllZero
pub mod Taking
pub mod Tallying
