pub mod Calls
pub mod Filed
pub mod Moves
pub mod Openings
pub mod Receiving
pub mod Tables
