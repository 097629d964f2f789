use Rattle.at_adsp_frame.proofs.laws.what_is_written_is_a_header_and_fields.Goals as goal
use Rattle.at_adsp_frame.proofs.SpellingLemmas.{spelled_length}

pub returns : goal.returns
returns c = spelled_length
