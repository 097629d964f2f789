pub mod Commands
pub mod Ends
pub mod Runs
pub mod Sent
pub mod Told
