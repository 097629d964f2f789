mod InputLemmas
