-- The requesters and responders of a world's nodes, by address, and how the step of one node changes them.
use Rattle.std.proofs.Common.{◌≡◌, ℕ, Bool, true, false, cond, List, [], Option, Some, None, refl, sym, ap, ◌∙◌}
use Rattle.std.specs.Prelude.{find, ◌==◌, ◌&&◌}
use Rattle.std.proofs.lemmas.Bool.{true≢false, eq-eqb, eqb-true}
use Rattle.at_ddp.specs.declared.address.Address.{Address}
use Rattle.at_ddp.specs.Posts.{put}
use Rattle.at_atp_responder.specs.Records.{Record}
use Rattle.at_atp_requester.specs.Requests.{Requests, no_requests}
use Rattle.at_ddp.specs.Tables.{replaced}
use Rattle.at_transaction_socket.specs.TransactionSockets.{asking, serving}
use Rattle.at_zone_socket.specs.ZoneSockets.{zones_at}
use Rattle.at_node.specs.Nodes.{NodeState}
use Rattle.at_nodes.specs.Nodes.{is_numbered}
use Rattle.at_world.proofs.Nodes.{at_after}

-- ---- the requester at an address: that of the node, at the socket that asks

abbrev pub requester_of : Option NodeState → Requests
requester_of None = no_requests
requester_of (Some n) = n.atp.transactions.requester

abbrev pub requester_at : ℕ → List NodeState → Address → Requests
requester_at net nodes who =
    cond ((net == who.net) && (128 == who.socket)) (requester_of (find (is_numbered who.node) nodes)) no_requests

pub requester_after : (net : ℕ) (nodes : List NodeState) (k : ℕ) (n x : NodeState) → x.seat.number ≡ k
    → find (is_numbered k) nodes ≡ Some n → (who : Address) → requester_at net (replaced (is_numbered k) x nodes) who
    ≡ put (requester_at net nodes) (asking net k) x.atp.transactions.requester who
requester_after net nodes k n x same stands who =
    ap (λ o. cond ((net == who.net) && (128 == who.socket)) (requester_of o) no_requests)
    (at_after k who.node x n nodes same stands)
    ∙ go (net == who.net) (k == who.node) (128 == who.socket) (find (is_numbered who.node) nodes)
  where
    go : (a b c : Bool) (o : Option NodeState) → cond (a && c) (requester_of (cond b (Some x) o)) no_requests
        ≡ cond (a && b && c) x.atp.transactions.requester (cond (a && c) (requester_of o) no_requests)
    go true true true o = refl
    go true true false o = refl
    go true false true o = refl
    go true false false o = refl
    go false true true o = refl
    go false true false o = refl
    go false false true o = refl
    go false false false o = refl

pub requester_here : (net : ℕ) (nodes : List NodeState) (k : ℕ) (n : NodeState) → find (is_numbered k) nodes ≡ Some n
    → requester_at net nodes (asking net k) ≡ n.atp.transactions.requester
requester_here net nodes k n stands = rw (eq-eqb net net refl) (ap requester_of stands)

-- ---- the records at an address: those of the node's service, or of its zone requests

abbrev pub service_of : Option NodeState → List Record
service_of None = []
service_of (Some n) = n.atp.transactions.service_responder

abbrev pub served_of : Option NodeState → List Record
served_of None = []
served_of (Some n) = n.atp.zones.zone_responder

abbrev pub records_at : ℕ → List NodeState → Address → List Record
records_at net nodes at =
    cond (net == at.net) (cond (129 == at.socket) (service_of (find (is_numbered at.node) nodes))
    (cond (6 == at.socket) (served_of (find (is_numbered at.node) nodes)) [])) []

pub records_after : (net : ℕ) (nodes : List NodeState) (k : ℕ) (n x : NodeState) → x.seat.number ≡ k
    → find (is_numbered k) nodes ≡ Some n → (at : Address) →
    records_at net (replaced (is_numbered k) x nodes) at
    ≡ put (put (records_at net nodes) (serving net k) x.atp.transactions.service_responder)
    (zones_at net k) x.atp.zones.zone_responder at
records_after net nodes k n x same stands at =
    ap (λ o. cond (net == at.net) (cond (129 == at.socket) (service_of o) (cond (6 == at.socket) (served_of o) [])) [])
    (at_after k at.node x n nodes same stands)
    ∙ go (net == at.net) (k == at.node) (129 == at.socket) (6 == at.socket) (find (is_numbered at.node) nodes) apart
  where
    apart : (129 == at.socket) ≡ true → (6 == at.socket) ≡ false
    apart e = ap (λ s. 6 == s) (sym (eqb-true 129 at.socket e))

    go : (a b c d : Bool) (o : Option NodeState) → (c ≡ true → d ≡ false) →
        cond a (cond c (service_of (cond b (Some x) o)) (cond d (served_of (cond b (Some x) o)) [])) []
        ≡ cond (a && b && d) x.atp.zones.zone_responder
        (cond (a && b && c) x.atp.transactions.service_responder
        (cond a (cond c (service_of o) (cond d (served_of o) [])) []))
    go true true true true o other = absurd (true≢false (other refl))
    go true true true false o other = refl
    go true true false true o other = refl
    go true true false false o other = refl
    go true false true true o other = refl
    go true false true false o other = refl
    go true false false true o other = refl
    go true false false false o other = refl
    go false true true true o other = refl
    go false true true false o other = refl
    go false true false true o other = refl
    go false true false false o other = refl
    go false false true true o other = refl
    go false false true false o other = refl
    go false false false true o other = refl
    go false false false false o other = refl

pub service_here : (net : ℕ) (nodes : List NodeState) (k : ℕ) (n : NodeState) → find (is_numbered k) nodes ≡ Some n
    → records_at net nodes (serving net k) ≡ n.atp.transactions.service_responder
service_here net nodes k n stands = rw (eq-eqb net net refl) (ap service_of stands)

pub served_here : (net : ℕ) (nodes : List NodeState) (k : ℕ) (n : NodeState) → find (is_numbered k) nodes ≡ Some n
    → records_at net nodes (zones_at net k) ≡ n.atp.zones.zone_responder
served_here net nodes k n stands = rw (eq-eqb net net refl) (ap served_of stands)
