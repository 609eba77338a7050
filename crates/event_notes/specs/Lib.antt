pub mod Debts
pub mod Loose
