use Rattle.at_adsp_ends.proofs.CountLemmas.{closed_few, connect_few, ticked_few, was_read_few, was_reset_few, wrote_few}
use Rattle.at_adsp_ends.specs.Tables.{next_id}
use Rattle.at_adsp_ends.proofs.laws.few_segments_are_sent_by_calls.Goals as goal

pub returns : goal.returns
returns c = record {
  connected = λ t to. connect_few t to (next_id t);
  closed = closed_few;
  read = was_read_few;
  reset = was_reset_few;
  wrote = λ t id items all. wrote_few t all id items;
  ticked = λ t id tick all. ticked_few t all id tick;
}
