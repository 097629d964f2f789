pub mod Answers
pub mod Binds
pub mod Sockets
