pub mod Carrying
pub mod NameSockets
pub mod Sockets
pub mod Steps
