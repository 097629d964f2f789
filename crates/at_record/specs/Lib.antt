pub mod Commands
pub mod Ends
pub mod Recordings
pub mod Unseen
