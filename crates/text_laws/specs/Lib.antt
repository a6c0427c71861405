pub mod Lined
pub mod First
pub mod Refused
pub mod Alike
pub mod Words
pub mod Once
pub mod Blanks
pub mod Parts
