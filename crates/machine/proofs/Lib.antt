pub mod Deciding
pub mod Choosing
pub mod OfKind
pub mod Going
