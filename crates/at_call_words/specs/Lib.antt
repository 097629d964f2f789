pub mod Calls
pub mod Items
pub mod Readings
pub mod Requesters
pub mod Timers
pub mod Words
