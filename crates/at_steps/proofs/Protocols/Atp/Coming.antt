-- What is known of a packet of the network that comes in time.
use Rattle.std.proofs.Common.{◌≡◌, ℕ, Bool, true, false, cond, List, [], ◌∷◌, Some, refl, sym, ap, subst, ◌∙◌}
use Rattle.std.specs.Prelude.{◌==◌}
use Rattle.std.specs.List.{AllByRecursion}
use Rattle.std.proofs.lemmas.Bool.{and_parts}
use Rattle.at_ddp.specs.Address.{same_address}
use Rattle.at_ddp.specs.declared.address.Address.{Address}
use Rattle.at_ddp.proofs.Octets.{same_address-true}
use Rattle.at_ddp.specs.Posts.{packet_at}
use Rattle.at_atp.specs.Network.{Network, Sent, is_fresh, ComesInTime}
use Rattle.at_atp.specs.Transactions.{Transaction, Asked, is_transaction, transaction_of}
use Rattle.at_steps.specs.AtpHappenings.{IsOn}

some_sent : (a b : Sent) → Some a ≡ Some b → a ≡ b
some_sent a b h = cc

-- the packet at this place is in time
pub in_time : (n : Network) (which : ℕ) (s : Sent) → packet_at n.sent which ≡ Some s → is_fresh n.drawn s ≡ true
    → ComesInTime n which
in_time n which s was_sent fresh x at =
    subst (λ (y : Sent). is_fresh n.drawn y ≡ true) (some_sent s x (sym was_sent ∙ at)) fresh

-- what holds of each transaction holds of the newest of a number
one_of : (P : Transaction → Type 0) (ts : List Transaction) (from : Address) (tid : ℕ) (a : Transaction)
    → transaction_of ts from tid ≡ Some a → AllByRecursion P ts → P a × (is_transaction from tid a ≡ true)
one_of P [] from tid a is all = absurd (cc)
one_of P (t ∷ ts) from tid a is all = go (λ g. one_of P ts from tid a g all.1) (is_transaction from tid t) refl is
  where
    go : (transaction_of ts from tid ≡ Some a → P a × (is_transaction from tid a ≡ true)) → (b : Bool)
        → is_transaction from tid t ≡ b → cond b (Some t) (transaction_of ts from tid) ≡ Some a → P a
        × (is_transaction from tid a ≡ true)
    go ih true e g = let same : t
        ≡ a = cc in (subst P same all.0, subst (λ (x : Transaction). is_transaction from tid x ≡ true) same e)
    go ih false e g = ih g

-- who asked, and whom, is on the node's network
pub requester_on_net : (net : ℕ) (ts : List Transaction) (who : Address) (tid : ℕ) (responder : Address)
    → AllByRecursion (IsOn net) ts → Asked ts who tid responder → who.net ≡ net
requester_on_net net ts who tid responder nets a =
    let one = one_of (IsOn net) ts who tid a.transaction a.newest nets in
    let both = and_parts (same_address (a.transaction).requester who) ((a.transaction).tid == tid) one.1 in
    ap (λ (x : Address). x.net) (sym (same_address-true (a.transaction).requester who both.0)) ∙ (one.0).0

pub responder_on_net : (net : ℕ) (ts : List Transaction) (who : Address) (tid : ℕ) (responder : Address)
    → AllByRecursion (IsOn net) ts → Asked ts who tid responder → responder.net ≡ net
responder_on_net net ts who tid responder nets a =
    let one = one_of (IsOn net) ts who tid a.transaction a.newest nets in
    ap (λ (x : Address). x.net) (sym a.asked_it) ∙ (one.0).1
