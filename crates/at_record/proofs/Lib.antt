mod PlayedLemmas
mod SentLemmas
