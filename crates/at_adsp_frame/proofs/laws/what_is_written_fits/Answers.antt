use Rattle.at_adsp_frame.proofs.laws.what_is_written_fits.Goals as goal
use Rattle.at_adsp_frame.proofs.SpellingLemmas.{written_fits}

pub returns : goal.returns
returns c = written_fits
