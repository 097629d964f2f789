pub mod Calls
pub mod Memory
pub mod MemoryCounts
pub mod Waits
