mod NodeHandles
mod StatusLemmas
