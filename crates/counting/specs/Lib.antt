pub mod Room
pub mod Growing
