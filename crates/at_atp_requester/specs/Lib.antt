pub mod Answers
pub mod Arriving
pub mod Endings
pub mod Requests
pub mod Standing
pub mod Wholes
