use Rattle.at_setup_lines.proofs.FirstWordLemmas.{draft_heads, setup_heads}
use Rattle.at_setup_lines.proofs.laws.lines_begin_with_known_words.Goals as goal

pub returns : goal.returns
returns g c = record { setups = λ lines s h. setup_heads lines s h; drafts = draft_heads }
