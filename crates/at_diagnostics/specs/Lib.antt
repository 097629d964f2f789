pub mod Diagnostics
pub mod Lines
pub mod NumberSets
pub mod Stops
pub mod Unopened
