-- The tie of streams, and how the machine follows each event in them.
pub mod Coming
pub mod Freely
pub mod Happenings
pub mod Next
pub mod Opening
pub mod Peers
pub mod Standing
pub mod Steps
pub mod Tie
pub mod Times
