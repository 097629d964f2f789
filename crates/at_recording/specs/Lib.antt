pub mod Frames
pub mod Moments
pub mod Recordings
