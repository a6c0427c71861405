pub mod First
pub mod Told
pub mod Exact
pub mod Laws
