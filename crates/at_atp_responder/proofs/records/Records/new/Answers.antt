use Rattle.std.proofs.Common.{map, ap, sym, subst, ◌∙◌}
use Rattle.at_atp_responder.specs.Keys.{AreApart, key_of}
use Rattle.at_atp_responder.proofs.KeyLemmas.{none_apart}
use Rattle.at_atp_responder.proofs.records.Records.new.Goals as goal

pub invariant_of-result : goal.invariant_of-result
invariant_of-result g c = record {
  keyed = c.new.ensures.keys ∙ ap (map key_of) (sym c.new.ensures.items);
  apart = subst AreApart (sym c.new.ensures.items) none_apart;
}
