-- Sends to nodes in turn, and sockets of nodes in turn.
use Rattle.std.proofs.Common.{◌≡◌, ℕ, ◌+◌, ◌<◌, List, [], ◌∷◌, ◌++◌, length, take, drop, get_or, Some, Ok, Err}
use Rattle.std.proofs.Common.{◌∙◌, refl, sym, ap, subst}
use Rattle.std.specs.Prelude.{Result, slice_get}
use Rattle.std.specs.List.{AllZip}
use Rattle.std.specs.declared.io.Error.{Error}
use Rattle.std.proofs.lemmas.List.{drop_more, take_more}
use Rattle.std.proofs.lemmas.Slice.Zip.{all_zipped_more}
use Rattle.at_cable.specs.declared.fault.CableFault.{CableFault}
use Rattle.at_udp.specs.Binds.{Has, IsOf, IsUnbound}
use Rattle.at_udp.specs.Sockets.{GoesOn, SendsAt, SendsEach, port_of}
use Rattle.at_udp.specs.declared.bind.BindFault.{BindFault}
use Rattle.at_udp.specs.declared.bind.BindFault.TheVariants as fault

module _ {S : Type 0} (R : S → List ℕ → ℕ → Result ℕ Error → S → Type 0) (first : ℕ) (bytes : List ℕ) where
  -- whatever comes of the nodes from this place on, comes of all of them
  abbrev pub Leads : List ℕ → S → ℕ → S → Type 0
  Leads nodes s index mid = (answer : Result (Unit {0}) CableFault) (after : S)
      → SendsEach R first bytes (drop index nodes) mid answer after → SendsEach R first bytes nodes s answer after

  -- a send to the node at a place, and what comes of the nodes after it
  pub one_more : (nodes : List ℕ) (index d : ℕ) → index < length nodes → (s : S) (one : Result (Unit {0}) CableFault)
      (mid : S) (answer : Result (Unit {0}) CableFault) (after : S)
      → SendsAt R bytes (port_of first (get_or nodes index d)) s one mid
      → GoesOn one (SendsEach R first bytes (drop (index + 1) nodes) mid) mid answer after
      → SendsEach R first bytes (drop index nodes) s answer after
  one_more nodes index d within s one mid answer after sent more =
      subst (λ l. SendsEach R first bytes l s answer after) (sym (drop_more nodes index d within))
      (one, mid, sent, more)

  -- the send to the node at a place failed, so that is what comes of all
  pub stopped : (nodes : List ℕ) (index d : ℕ) (s mid : S) (f : CableFault) (after : S) → index < length nodes
      → Leads nodes s index mid → SendsAt R bytes (port_of first (get_or nodes index d)) mid (Err f) after
      → SendsEach R first bytes nodes s (Err f) after
  stopped nodes index d s mid f after within leads sent =
      leads (Err f) after (one_more nodes index d within mid (Err f) after (Err f) after sent (refl, refl))

  -- a send to one node
  pub one_send : (to : ℕ) (s : S) (answer : Result (Unit {0}) CableFault) (after : S)
      → SendsAt R bytes (port_of first to) s answer after → SendsEach R first bytes (to ∷ []) s answer after
  one_send to s (Ok u) after sent = (Ok u, after, sent, (refl, refl))
  one_send to s (Err f) after sent = (Err f, after, sent, (refl, refl))

module _ {S : Type 0} (B : ℕ → Result S Error → Type 0) (first : ℕ) where
  -- the socket of the node at a place is bound too
  pub one_bound : (nodes : List ℕ) (index d : ℕ) (sockets : List S) (socket : S) → index < length nodes
      → AllZip (Has B first) (take index nodes) sockets → Has B first (get_or nodes index d) socket
      → AllZip (Has B first) (take (index + 1) nodes) (sockets ++ socket ∷ [])
  one_bound nodes index d sockets socket within before has =
      subst (λ l. AllZip (Has B first) l (sockets ++ socket ∷ [])) (sym (take_more nodes index d within))
      (all_zipped_more (Has B first) (take index nodes) sockets (get_or nodes index d) socket before has)

  -- that of the node at a place could not be bound
  pub one_unbound : (nodes : List ℕ) (index node : ℕ) (sockets : List S) (f : BindFault)
      → slice_get nodes index ≡ Some node → AllZip (Has B first) (take index nodes) sockets → IsOf B first node f
      → IsUnbound B first nodes f
  one_unbound nodes index node sockets (fault.NoSocket n port why) at before is = (
    index,
    sockets,
    at ∙ ap Some (sym is.0),
    before,
    subst (λ k. IsOf B first k (fault.NoSocket n port why)) (sym is.0) is,
  )
  one_unbound nodes index node sockets fault.NoMemory at before is = absurd is
