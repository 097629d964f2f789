pub mod Commands
pub mod Ends
