mod Laws
pub mod Lines
