pub mod Answering
pub mod Working
