use Rattle.at_nbp.proofs.UnreadLemmas.{fits_strings}
use Rattle.at_nbp.proofs.relaying.relay.Goals as goal

pub tuple_in_zone-tuple-requires : goal.tuple_in_zone-tuple-requires
tuple_in_zone-tuple-requires g c = fits_strings _ c.only-asked.ensures.lawful
