pub mod HexFaults
pub mod Shown
pub mod Texts
pub mod Told
pub mod Words
