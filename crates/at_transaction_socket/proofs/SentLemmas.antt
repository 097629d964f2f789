-- What a responder pushes is what its socket posts.
use Rattle.std.proofs.Common.{◌≡◌, ℕ, List, ◌++◌, map, Result, Ok, Err}
use Rattle.std.specs.Prelude.{find, IfOk, OnOk}
use Rattle.at_ddp.specs.Outbox.{Posted, Outbox}
use Rattle.at_ddp.specs.Protocols.{atp_kind}
use Rattle.at_ddp.specs.declared.address.Address.{Address}
use Rattle.at_atp_frame.specs.Frames.{spelled_all}
use Rattle.at_atp_frame.specs.Packets.{Packet}
use Rattle.at_atp_frame.specs.declared.fault.AtpFault.{AtpFault}
use Rattle.at_atp_responder.specs.Records.{Record, Received, is_key, asked_for, IsTaken, IsAnswered}
use Rattle.at_atp_responder.specs.declared.reception.Key.{Key}
use Rattle.at_atp_responder.specs.declared.reception.Reception.{Reception}
use Rattle.at_event.specs.Outcomes.{posted, sent_by}
use Rattle.at_event.proofs.PostLemmas.{posts}

pub taken_posts : (r : Result Reception AtpFault) (t : Received) (new : List Record) (before after : Outbox)
    (start : List Posted) (own : Address) → IfOk r (λ x. IsTaken t x new before after) →
    before.items ≡ start → before.from ≡ own → before.kind ≡ atp_kind
    → OnOk r (after.items ≡ start ++ map posted (sent_by own atp_kind (spelled_all t.sent)))
taken_posts (Ok x) t new before after start own h same from kind =
    posts before after (spelled_all t.sent) start own atp_kind h.sends same from kind
taken_posts (Err e) t new before after start own h same from kind = h

pub answered_posts : {E : Type 0} (r : Result ℕ E) (old new : List Record) (key : Key) (packets : List Packet)
    (before after : Outbox) (start : List Posted) (own : Address)
    → IfOk r (λ count. IsAnswered old new key packets count before after) →
    before.items ≡ start → before.from ≡ own → before.kind ≡ atp_kind
    → OnOk r (after.items ≡ start ++ map posted
    (sent_by own atp_kind (spelled_all (asked_for (find (is_key key) old) key packets))))
answered_posts (Ok n) old new key packets before after start own h same from kind =
    posts before after _ start own atp_kind h.sends same from kind
answered_posts (Err e) old new key packets before after start own h same from kind = h
