pub mod AtOnce
pub mod Keys
pub mod Once
pub mod Records
pub mod Replies
pub mod States
