-- What a program in C is given.
pub mod Calls
pub mod Handles
pub mod Statuses
