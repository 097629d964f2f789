-- How each event of a node is safe, whatever its protocol.
pub mod By
pub mod Events
