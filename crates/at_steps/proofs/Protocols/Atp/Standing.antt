-- A node whose part stands in the network: what stays there if the part stays.
use Rattle.std.proofs.Common.{◌≡◌, false, cond, List, ◌++◌, None, refl, sym, ap, ◌∙◌}
use Rattle.std.specs.Prelude.{◌&&◌}
use Rattle.std.proofs.lemmas.Bool.{eq-eqb}
use Rattle.std.proofs.lemmas.List.{append-nil}
use Rattle.at_ddp.specs.Address.{same_address}
use Rattle.at_ddp.specs.declared.address.Address.{Address}
use Rattle.at_atp_responder.specs.Records.{Record}
use Rattle.at_ddp.specs.Posts.{put}
use Rattle.at_ddp.proofs.PostLemmas.{put_same, put_itself}
use Rattle.at_atp.specs.Network.{Happening, after}
use Rattle.at_atp.specs.Transactions.{Transaction}
use Rattle.at_zone_socket.specs.AtpParts.{AtpState}
use Rattle.at_transaction_socket.specs.TransactionSockets.{asking, serving}
use Rattle.at_zone_socket.specs.ZoneSockets.{zones_at}
use Rattle.at_node.specs.Numbers.{drawn_by}
use Rattle.at_node.specs.Nodes.{NodeState}
use Rattle.at_event.specs.Outcomes.{Outcome}
use Rattle.at_event.specs.declared.Report.{Report}
use Rattle.at_steps.specs.Acts.{Act}
use Rattle.at_steps.specs.AtpHappenings.{Stands, IsHappening, numbers_drawn}
use Rattle.at_steps.specs.AtpSteps.{IsStep}

-- a step of the part, from its transactions to these
abbrev pub StepTo : (A : Type 0) (history : List Happening) (n : NodeState) → Act A → List Transaction → AtpState
    → Report A → Type 0
StepTo A history n act ts x r =
    IsStep n.seat.net n.seat.number n.seat.router
    (record { asked = (after A history).asked; now_asked = ts; part = n.atp; now = x; act = act; report = r })

abbrev pub IsIts : (A : Type 0) (history : List Happening) (n : NodeState) → Act A → Outcome A NodeState → Type 0
IsIts A history n act o = IsHappening A history n.seat.net n.seat.number n act o

module _ (A : Type 0) (history : List Happening) (n : NodeState)
    (st : Stands A history n.seat.net n.seat.number n) where
  sockets_apart : same_address (serving n.seat.net n.seat.number) (zones_at n.seat.net n.seat.number) ≡ false
  sockets_apart = λ i. eq-eqb n.seat.net n.seat.net refl i && eq-eqb n.seat.number n.seat.number refl i && false

  -- the zone socket's records, once the service's are put
  zones_still : (rs : List Record)
      → put (after A history).responders (serving n.seat.net n.seat.number) rs (zones_at n.seat.net n.seat.number)
      ≡ n.atp.zones.zone_responder
  zones_still rs = ap (λ b. cond b rs ((after A history).responders (zones_at n.seat.net n.seat.number))) sockets_apart
      ∙ st.zones

  pub requesters_stay : (who : Address) → (after A history).requesters who
      ≡ put (after A history).requesters (asking n.seat.net n.seat.number) n.atp.transactions.requester who
  requesters_stay who = put_itself (after A history).requesters
      (asking n.seat.net n.seat.number) n.atp.transactions.requester st.requester who

  pub with_service : (rs : List Record) (at : Address)
      → put (after A history).responders (serving n.seat.net n.seat.number) rs at
      ≡ put (put (after A history).responders (serving n.seat.net n.seat.number) rs)
      (zones_at n.seat.net n.seat.number) n.atp.zones.zone_responder at
  with_service rs at = put_itself (put (after A history).responders (serving n.seat.net n.seat.number) rs)
      (zones_at n.seat.net n.seat.number) n.atp.zones.zone_responder (zones_still rs) at

  pub with_served : (rs : List Record) (at : Address)
      → put (after A history).responders (zones_at n.seat.net n.seat.number) rs at
      ≡ put (put (after A history).responders (serving n.seat.net n.seat.number) n.atp.transactions.service_responder)
      (zones_at n.seat.net n.seat.number) rs at
  with_served rs at = put_same (after A history).responders
      (put (after A history).responders (serving n.seat.net n.seat.number) n.atp.transactions.service_responder)
      (zones_at n.seat.net n.seat.number) rs at
      (put_itself (after A history).responders (serving n.seat.net n.seat.number) n.atp.transactions.service_responder
      st.service at)

  pub responders_stay : (at : Address) → (after A history).responders at
      ≡ put (put (after A history).responders (serving n.seat.net n.seat.number) n.atp.transactions.service_responder)
      (zones_at n.seat.net n.seat.number) n.atp.zones.zone_responder at
  responders_stay at = put_itself (after A history).responders
      (serving n.seat.net n.seat.number) n.atp.transactions.service_responder st.service at ∙ with_service
      n.atp.transactions.service_responder at

  pub no_draw : (r : Report A) → drawn_by r ≡ None → (after A history).drawn
      ≡ (after A history).drawn ++ numbers_drawn (after A history).event (asking n.seat.net n.seat.number) (drawn_by r)
  no_draw r none = sym (append-nil (after A history).drawn)
      ∙ ap (λ o. (after A history).drawn ++ numbers_drawn (after A history).event (asking n.seat.net n.seat.number) o)
      (sym none)
