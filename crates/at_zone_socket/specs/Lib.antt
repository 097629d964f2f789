pub mod AtpHearing
pub mod AtpParts
pub mod AtpTimers
pub mod Readings
pub mod Turning
pub mod ZoneReading
pub mod ZoneSocket
pub mod ZoneSockets
