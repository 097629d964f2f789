-- A request that would wait behind all others: its record is found, and goes with the answer.
use Rattle.std.proofs.Common.{◌≡◌, true, false, cond, List, Option, Some, None, refl, ap, ◌∙◌}
use Rattle.std.specs.Prelude.{find}
use Rattle.std.proofs.lemmas.Bool.{eq-eqb}
use Rattle.at_atp_frame.specs.Packets.{Packet}
use Rattle.at_ddp.proofs.Alls.{find_last}
use Rattle.at_ddp.proofs.Octets.{same_address_itself}
use Rattle.at_ddp.specs.Tables.{replaced, without_first}
use Rattle.at_atp_responder.specs.AtOnce.{with_request}
use Rattle.at_atp_responder.specs.Records.{Record, Waiting, Answered, after_answer, asked_for, is_key, is_kept}
use Rattle.at_atp_responder.specs.Records.{responses}
use Rattle.at_atp_responder.specs.declared.reception.NewRequest.{NewRequest}
use Rattle.at_ddp.proofs.TableLemmas.{without_last}

-- the record of the request
abbrev waiting : NewRequest → Record
waiting q = record { key = q.key; state = Waiting false q.bitmap }

own : (q : NewRequest) → is_key q.key (waiting q) ≡ true
own q = rw (same_address_itself q.key.from, eq-eqb q.key.tid q.key.tid refl) refl

stands_last : (rs : List Record) (q : NewRequest) → find (is_key q.key) rs ≡ None
    → find (is_key q.key) (with_request rs q) ≡ Some (waiting q)
stands_last rs q none = find_last (is_key q.key) rs (waiting q) none (own q)

pub asks : (rs : List Record) (q : NewRequest) (packets : List Packet) → find (is_key q.key) rs ≡ None
    → asked_for (find (is_key q.key) (with_request rs q)) q.key packets ≡ responses q.key 0 q.bitmap packets
asks rs q packets none = ap (λ (o : Option Record). asked_for o q.key packets) (stands_last rs q none)

pub goes : (rs : List Record) (q : NewRequest) (packets : List Packet) → find (is_key q.key) rs ≡ None
    → after_answer (with_request rs q) q.key packets ≡ rs
goes rs q packets none =
    ap (λ (o : Option Record). cond (is_kept o)
    (replaced (is_key q.key) (record { key = q.key; state = Answered packets }) (with_request rs q))
    (without_first (is_key q.key) (with_request rs q))) (stands_last rs q none)
    ∙ without_last (is_key q.key) rs (waiting q) none (own q)
