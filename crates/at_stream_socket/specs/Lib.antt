pub mod Calls
pub mod Carrying
pub mod Hearing
pub mod Sockets
