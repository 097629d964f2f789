-- A number that a node does not hold is free at its responders.
use Rattle.std.proofs.Common.{◌≡◌, ℕ, Bool, true, false, cond, List, [], ◌∷◌, Some, None, refl, sym, ap, ◌∙◌}
use Rattle.std.specs.Prelude.{find, ◌==◌, ◌&&◌}
use Rattle.std.specs.List.{list_any}
use Rattle.std.proofs.lemmas.Bool.{true≢false, and_parts, eq-eqb, or_parts}
use Rattle.at_ddp.specs.Address.{same_address}
use Rattle.at_ddp.specs.declared.address.Address.{Address}
use Rattle.at_ddp.proofs.Octets.{same_address-true}
use Rattle.at_atp_responder.specs.Records.{Record, is_key, is_from}
use Rattle.at_transaction_socket.specs.TransactionSockets.{asking}
use Rattle.at_node.specs.Numbers.{holds}
use Rattle.at_node.specs.Nodes.{NodeState}
use Rattle.at_node.specs.declared.numbers.Draw.TheVariants.{Tid}
use Rattle.at_steps.specs.AtpHappenings.{HoldsNo}

-- no record of a node's number, none under the key of a requester there
none_of_key : (net k tid : ℕ) (rs : List Record) → list_any (is_from k tid) rs ≡ false → HoldsNo (asking net k) tid rs
none_of_key net k tid [] h = refl
none_of_key net k tid (r ∷ rs) h =
    let both = or_parts (is_from k tid r) (list_any (is_from k tid) rs) h in
    go (is_key (record { from = asking net k; tid = tid }) r) refl both.0 (none_of_key net k tid rs both.1)
  where
    go : (b : Bool) → is_key (record { from = asking net k; tid = tid }) r ≡ b → is_from k tid r ≡ false
        → HoldsNo (asking net k) tid rs
        → cond b (Some r) (find (is_key (record { from = asking net k; tid = tid })) rs) ≡ None
    go false e apart ih = ih
    go true e apart ih =
        let both = and_parts (same_address r.key.from (asking net k)) (r.key.tid == tid) e in
        let from : r.key.from ≡ asking net k = same_address-true r.key.from (asking net k) both.0 in
        let mine : is_from k tid r ≡ true = λ i. eq-eqb (r.key.from).node k (ap (λ (a : Address). a.node) from) i
        && both.1 i in
        absurd (true≢false (sym mine ∙ apart))

pub holds_none : (net k tid : ℕ) (n : NodeState) → holds n k (Tid tid) ≡ false
    → HoldsNo (asking net k) tid n.atp.transactions.service_responder × HoldsNo (asking net k) tid
    n.atp.zones.zone_responder
holds_none net k tid n h =
    let both = or_parts (list_any (is_from k tid) n.atp.zones.zone_responder)
    (list_any (is_from k tid) n.atp.transactions.service_responder) h in (
      none_of_key net k tid n.atp.transactions.service_responder both.1,
      none_of_key net k tid n.atp.zones.zone_responder
          both.0,
    )
