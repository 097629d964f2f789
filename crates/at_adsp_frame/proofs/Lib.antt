mod SegmentLemmas
mod SpellingLemmas
