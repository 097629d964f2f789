pub mod Hexes
pub mod Numbers
pub mod Readings
pub mod Texts
pub mod Words
