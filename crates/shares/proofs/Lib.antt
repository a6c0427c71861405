pub mod Dividing
pub mod Percents
pub mod Quotients
pub mod Sums
pub mod WithoutLoss
