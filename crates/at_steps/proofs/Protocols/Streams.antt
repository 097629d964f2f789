-- How each step of a node's part for streams is a happening of its network, and safe.
pub mod Arriving
pub mod Below
pub mod Calls
pub mod Carrying
pub mod Ends
pub mod Foreign
pub mod Holding
pub mod Moves
pub mod OnNet
pub mod OnNetHistories
pub mod Ours
pub mod Outcomes
pub mod Passing
pub mod Reading
pub mod Safe
pub mod Timers
