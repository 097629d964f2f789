-- How each step of a node's part for names is a happening of its network, and safe.
pub mod Arriving
pub mod Below
pub mod Calls
pub mod Carrying
pub mod Foreign
pub mod Moves
pub mod Outcomes
pub mod Passing
pub mod Safe
pub mod Timers
