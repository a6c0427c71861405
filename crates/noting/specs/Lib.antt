pub mod Noted
pub mod Ledgers
