-- How the part of names follows each event: its tie and its steps.
pub mod Coming
pub mod Happenings
pub mod Lookups
pub mod Moments
pub mod Next
pub mod Opening
pub mod Steps
pub mod LookupFinds
pub mod LookupSteps
pub mod Stood
pub mod Tie
pub mod Times
