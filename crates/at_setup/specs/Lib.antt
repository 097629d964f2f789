pub mod Refusals
pub mod Setups
