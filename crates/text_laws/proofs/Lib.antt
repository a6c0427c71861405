pub mod First
pub mod Refused
pub mod Named
pub mod Impostors
