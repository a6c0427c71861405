pub mod RoundTrip
pub mod Sweep
pub mod Digits
pub mod Spelt
pub mod Back
pub mod Orders
