-- What the protocol of a decoded datagram says of it.
use Rattle.std.proofs.Common.{◌≡◌, ℕ, Bool, ap, subst, sym, ◌∙◌}
use Rattle.std.specs.Prelude.{◌||◌}
use Rattle.at_ddp.specs.Datagram.{Content, content}
use Rattle.at_ddp.specs.Protocols.{adsp_kind, atp_kind, nbp_kind}
use Rattle.at_ddp.specs.declared.datagram.Datagram.{Datagram}
use Rattle.at_event.specs.Seats.{is_for_all, is_mine}
use Rattle.at_event.specs.declared.seat.Seat.{Seat}
use Rattle.at_packet.specs.Bodies.{IsBody, datagram_of}
use Rattle.at_packet.specs.declared.Body.{Body}
use Rattle.at_packet.specs.declared.Body.TheVariants as body

-- the datagram of a decoded one, whose protocol has this number
abbrev pub IsOf : Body → Content → ℕ → Type 0
IsOf b d kind = (datagram_of b ≡ d) × (d.kind ≡ kind)

pub atp_of : (b : Body) (d : Content) → b ≡ body.Atp d → IsBody b → IsOf b d atp_kind
atp_of b d is kind = (ap datagram_of is, subst IsBody is kind)

pub nbp_of : (b : Body) (d : Content) → b ≡ body.Nbp d → IsBody b → IsOf b d nbp_kind
nbp_of b d is kind = (ap datagram_of is, subst IsBody is kind)

pub adsp_of : (b : Body) (d : Content) → b ≡ body.Adsp d → IsBody b → IsOf b d adsp_kind
adsp_of b d is kind = (ap datagram_of is, subst IsBody is kind)

pub other_of : (b : Body) (d : Datagram) → b ≡ body.Other d → datagram_of b ≡ content d
other_of b d is = ap datagram_of is

pub other_kind : (b : Body) (d : Datagram) → b ≡ body.Other d → IsBody b → IsBody (body.Other d)
other_kind b d is kind = subst IsBody is kind

-- whether a datagram is for a seat
abbrev pub is_for : Seat → Content → Bool
is_for s d = is_for_all s d.kind d.to || is_mine s d.to

pub for_seat : (s t : Seat) (d e : Content) (asked answer : Bool) → asked ≡ is_for s d → asked ≡ answer → s ≡ t → d ≡ e
    → is_for t e ≡ answer
for_seat s t d e asked answer is was seat same = ap (is_for t) (sym same) ∙ ap (λ x. is_for x d) (sym seat)
    ∙ sym is ∙ was
