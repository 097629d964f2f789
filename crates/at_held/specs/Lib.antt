-- A node in the hands of a program.
pub mod Handing
pub mod Held
pub mod Lines
pub mod Openings
pub mod Rooms
pub mod Safety
pub mod Waiting
