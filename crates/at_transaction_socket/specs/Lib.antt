pub mod LastPackets
pub mod RequesterSocket
pub mod Responders
pub mod ServiceSocket
pub mod TransactionSockets
