pub mod Drafts
pub mod Says
pub mod Schedules
pub mod Wholes
