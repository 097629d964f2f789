pub mod Arrivals
pub mod Drives
pub mod Logs
pub mod Safety
pub mod Sendings
pub mod Steps
