pub mod Fault
pub mod Frames
pub mod Packets
pub mod Reading
