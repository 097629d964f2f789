-- What an answer does to a responder.
use Rattle.std.proofs.Common.{◌≡◌, ℕ, Bool, true, false, cond, List, [], ◌∷◌, length, Option, Some, None, refl, sym, ap}
use Rattle.std.proofs.Common.{◌∙◌}
use Rattle.std.specs.Prelude.{find, nat_le, ◌&&◌, IfSome}
use Rattle.at_atp_frame.specs.Packets.{Packet}
use Rattle.at_atp_responder.specs.Records.{Record, is_key, fit, responses, record_fault, answer_fault, asked_bitmap}
use Rattle.at_atp_responder.specs.Records.{asked_for}
use Rattle.at_atp_frame.specs.declared.fault.AtpFault.TheVariants.{AtpTooLong}
use Rattle.at_atp_responder.specs.declared.reception.Key.{Key}

-- a request that is answered waits
pub answerable : (rs : List Record) (key : Key) (packets : List Packet) → answer_fault rs key packets ≡ None
    → record_fault (find (is_key key) rs) ≡ None
answerable rs key [] h = absurd (cc)
answerable rs key (p ∷ ps) h = go (nat_le (length (p ∷ ps)) 8 && fit (p ∷ ps)) h
  where
    go : (b : Bool) → cond b (record_fault (find (is_key key) rs)) (Some AtpTooLong) ≡ None
        → record_fault (find (is_key key) rs) ≡ None
    go true g = g
    go false g = absurd (cc)

-- a request that is answered asks for the packets in its bitmap
pub asked_by : (rs : List Record) (key : Key) (packets : List Packet) (bitmap : ℕ) → answer_fault rs key packets ≡ None
    → IfSome (find (is_key key) rs) (λ r. bitmap ≡ asked_bitmap r.state) → responses key 0 bitmap packets
    ≡ asked_for (find (is_key key) rs) key packets
asked_by rs key packets bitmap free masked = go (find (is_key key) rs) refl masked
  where
    go : (o : Option Record) → find (is_key key) rs ≡ o → IfSome o (λ (r : Record). bitmap ≡ asked_bitmap r.state)
        → responses key 0 bitmap packets ≡ asked_for o key packets
    go None e m = let no : record_fault None ≡ None = ap record_fault (sym e) ∙ answerable rs key packets free in
        absurd (cc)
    go (Some r) e m = rw m refl
