use Rattle.at_atp_requester.proofs.DifferLemmas.{none_lawful, moved_lawful, begun_lawful, heard_lawful, retried_lawful}
use Rattle.at_atp_requester.proofs.laws.open_numbers_differ.Goals as goal

pub returns : goal.returns
returns g c = record {
  none = none_lawful;
  moved = moved_lawful g.row.A.Denot;
  begun = begun_lawful;
  heard = heard_lawful g.row.A.Denot;
  retried = retried_lawful;
}
