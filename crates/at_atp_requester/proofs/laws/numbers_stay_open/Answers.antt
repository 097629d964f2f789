use Rattle.at_atp_requester.proofs.StayLemmas.{opens_number, begun_stays, heard_stays, retried_stays}
use Rattle.at_atp_requester.proofs.OpenLemmas.{drawn_free}
use Rattle.at_atp_requester.proofs.laws.numbers_stay_open.Goals as goal

pub returns : goal.returns
returns g c = record {
  drawn = drawn_free;
  opened = opens_number;
  begun = begun_stays;
  heard = heard_stays g.row.A.Denot;
  retried = retried_stays;
}
