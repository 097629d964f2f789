mod FrameLemmas
mod SpellingLemmas
