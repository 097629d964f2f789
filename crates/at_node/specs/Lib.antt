pub mod Numbers
pub mod Hearing
pub mod Limits
pub mod NameCalls
pub mod NameHearing
pub mod Nodes
pub mod SessionCalls
pub mod Timers
