pub mod Fault
pub mod Names
pub mod Page
pub mod PageView
pub mod Reading
pub mod Request
pub mod Tables
pub mod Zones
