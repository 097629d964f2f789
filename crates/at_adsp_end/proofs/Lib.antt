mod ArrivalLemmas
mod CutLemmas
mod HearingLemmas
mod LoadLemmas
mod QueueLemmas
mod SentLemmas
