pub mod Reads
pub mod Sentences
