use Rattle.at_atp_requester.proofs.WantedLemmas.{request_bits, bit_still_wanted}
use Rattle.at_atp_requester.proofs.laws.a_bitmap_asks_for_the_places_still_wanted.Goals as goal

pub returns : goal.returns
returns c = record { sent = request_bits; came = bit_still_wanted }
