pub mod Faults
pub mod Kinds
pub mod Outcomes
pub mod Seats
pub mod Services
