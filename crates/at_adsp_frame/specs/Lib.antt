pub mod Fault
pub mod Openings
pub mod Order
pub mod Reading
pub mod Segments
