mod Seeking
mod SetupLemmas
mod Staying
