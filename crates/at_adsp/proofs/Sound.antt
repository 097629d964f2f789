-- What holds of a network of ends of streams after a timely history.
use Rattle.std.proofs.Common.{◌≡◌, ℕ, ◌<◌, ◌≤◌, Bool, true, false, cond, List, Option, Some, None, refl, sym, ap, ◌∙◌}
use Rattle.std.specs.Prelude.{not}
use Rattle.std.specs.List.{AllByRecursion}
use Rattle.std.proofs.lemmas.Bool.{true≢false}
use Rattle.at_ddp.specs.declared.address.Address.{Address}
use Rattle.at_adsp_frame.specs.Segments.{Part, Open}
use Rattle.at_adsp_frame.specs.declared.segment.OpenKind.{OpenKind}
use Rattle.at_adsp_frame.specs.declared.segment.OpenKind.TheVariants.{Request, Acknowledgement}
use Rattle.at_adsp_frame.specs.declared.segment.OpenKind.TheVariants.{RequestAndAcknowledgement, Denial}
use Rattle.at_adsp_end.specs.Ends.{EndState, has_opened}
use Rattle.at_adsp_end.specs.declared.phase.Phase.{Phase}
use Rattle.at_adsp_end.specs.declared.phase.Phase.TheVariants as phase
use Rattle.at_adsp_end.specs.declared.remote.Remote.{Remote}
use Rattle.at_ddp.specs.Posts.{AllSent}
use Rattle.at_adsp.specs.Network.{Setting, Made, Sent, Network, born, is_fresh, named, newest}
use Rattle.at_adsp.specs.Pairs.{number_of}
use Rattle.at_adsp.proofs.Distinct.{IdsApart}
use Rattle.at_adsp.proofs.Growth.{Fall, Grows}

-- ---- what an end knows

-- its remote is at the address that it asked, or that asked it
abbrev pub Reaches : Address → Option Remote → Type 0
Reaches asked remote = (id : ℕ) × (remote ≡ Some (record { address = asked; id = id }))

-- an end that asked has no remote until it opens, and one that answered has its remote from the beginning
abbrev pub Knows : Phase → Bool → Address → Option Remote → Type 0
Knows phase.Opening listener asked remote = (listener ≡ false) × (remote ≡ None)
Knows phase.Half listener asked remote = (listener ≡ true) × Reaches asked remote
Knows phase.Open listener asked remote = Reaches asked remote
Knows phase.Closed listener asked remote = Reaches asked remote

abbrev pub IsKnown : EndState → Type 0
IsKnown e = Knows e.phase e.listener e.asked e.remote

pub opened_reaches : (p : Phase) (listener : Bool) (asked : Address) (remote : Option Remote)
    → Knows p listener asked remote → has_opened p ≡ true → Reaches asked remote
opened_reaches phase.Opening listener asked remote k opened = absurd (true≢false (sym opened))
opened_reaches phase.Half listener asked remote k opened = absurd (true≢false (sym opened))
opened_reaches phase.Open listener asked remote k opened = k
opened_reaches phase.Closed listener asked remote k opened = k

-- an end that asked, and has a remote, opened
pub connector_opened : (p : Phase) (listener : Bool) (asked : Address) (remote : Option Remote) (r : Remote)
    → Knows p listener asked remote → listener ≡ false → remote ≡ Some r → has_opened p ≡ true
connector_opened phase.Opening listener asked remote r k asks has = absurd (let none = k.1 in cc)
connector_opened phase.Half listener asked remote r k asks has = absurd (true≢false (sym k.0 ∙ asks))
connector_opened phase.Open listener asked remote r k asks has = refl
connector_opened phase.Closed listener asked remote r k asks has = refl

-- a remote is at the address that was asked
pub reached : (p : Phase) (listener : Bool) (asked : Address) (remote : Option Remote) (r : Remote)
    → Knows p listener asked remote → remote ≡ Some r → r.address ≡ asked
reached phase.Opening listener asked remote r k has = absurd (let none = k.1 in cc)
reached phase.Half listener asked remote r k has = some_address remote r asked k.1 has
  where
    some_address : (o : Option Remote) (x : Remote) (a : Address) → Reaches a o → o ≡ Some x → x.address ≡ a
    some_address o x a h e = let same : x ≡ record { address = a; id = h.0 } = (let g = h.1 in cc) in
        ap (λ (y : Remote). y.address) same
reached phase.Open listener asked remote r k has = let same : r
    ≡ record { address = asked; id = k.0 } = (let g = k.1 in cc) in ap (λ (y : Remote). y.address) same
reached phase.Closed listener asked remote r k has = let same : r
    ≡ record { address = asked; id = k.0 } = (let g = k.1 in cc) in ap (λ (y : Remote). y.address) same

-- ---- ends that were made

-- an end is as its users see it, and what opened with one of our addresses named an end
pub record Lawful (ours : Address → Bool) (m : Made) : Type 0 where
  pub id : m.last.id ≡ m.stream.id
  pub listener : m.last.listener ≡ m.stream.listener
  pub asked : m.last.asked ≡ m.stream.asked
  pub known : IsKnown m.last
  pub peer : m.stream.peer ≡ cond (has_opened m.last.phase) m.names None
  pub found : has_opened m.last.phase ≡ true → ours m.last.asked ≡ true → (b : ℕ) × (m.names ≡ Some b)

-- an end of a table is the newest with its number, and what it names has the number of its remote still
pub record Stands (setting : Setting) (made : List Made) (at : Address) (e : EndState) : Type 0 where
  pub it : Made
  pub newest : newest made at e.id ≡ Some it
  pub last : it.last ≡ e
  pub names : it.names ≡ named setting made e.remote

-- the peer of an end was opened with it
pub record Mutual (made : List Made) (m : Made) (b : ℕ) : Type 0 where
  pub peer : Made
  pub there : born made b ≡ Some peer
  pub names : m.last.remote ≡ Some (number_of peer)
  pub named : peer.last.remote ≡ Some (number_of m)
  pub known : peer.names ≡ Some m.stream.birth
  pub turned : peer.stream.listener ≡ not m.stream.listener
  pub back : m.stream.listener ≡ true → peer.stream.peer ≡ Some m.stream.birth

abbrev pub HasPeer : List Made → Made → Type 0
HasPeer made m = (b : ℕ) → m.stream.peer ≡ Some b → Mutual made m b

-- ---- what is sent

-- the sender of an answer, or of an acknowledgement, is the newest with its number; its remote is the destination, and
-- it names the newest with that number
pub record Told (setting : Setting) (made : List Made) (from to : Address) (listener : Bool)
    (source dest : ℕ) : Type 0 where
  pub it : Made
  pub newest : newest made from source ≡ Some it
  pub listens : it.stream.listener ≡ listener
  pub remote : it.last.remote ≡ Some (record { address = to; id = dest })
  pub names : it.names ≡ named setting made (Some (record { address = to; id = dest }))

abbrev pub TellsKind : Setting → List Made → Address → Address → ℕ → OpenKind → ℕ → Type 0
TellsKind setting made from to source Request dest = Unit {0}
TellsKind setting made from to source Acknowledgement dest = Told setting made from to false source dest
TellsKind setting made from to source RequestAndAcknowledgement dest = Told setting made from to true source dest
TellsKind setting made from to source Denial dest = Unit {0}

abbrev pub Tells : Setting → List Made → Address → Address → ℕ → Part → Type 0
Tells setting made from to source (Open kind dest) = TellsKind setting made from to source kind dest
Tells setting made from to source other = Unit {0}

abbrev pub Fresh : Setting → List Made → Sent → Type 0
Fresh setting made s = is_fresh made s ≡ true → Tells setting made s.from s.to s.packet.source s.packet.body

-- a network after so many events
pub record Sound (setting : Setting) (events : ℕ) (n : Network) : Type 0 where
  pub births : Fall events n.made
  pub past : AllSent (λ s. s.event < events) n.sent
  pub lawful : AllByRecursion (Lawful setting.ours) n.made
  pub peers : AllByRecursion (HasPeer n.made) n.made
  pub sent : AllSent (Fresh setting n.made) n.sent
  pub standing : (at : Address) → AllByRecursion (Stands setting n.made at) (n.tables at).ends
  pub differ : (at : Address) → IdsApart (n.tables at).ends
  pub next : (at : Address) → 1 ≤ (n.tables at).next

-- ---- what stays as an end grows

pub told_kept : (setting : Setting) (old new : List Made) (from to : Address) (listener : Bool) (source dest : ℕ) →
    ((m : Made) → newest old from source ≡ Some m → (u : Made) × (newest new from source ≡ Some u) × Grows m u) →
    named setting new (Some (record { address = to; id = dest }))
    ≡ named setting old (Some (record { address = to; id = dest })) →
    Told setting old from to listener source dest → Told setting new from to listener source dest
told_kept setting old new from to listener source dest keeps same t =
    let more = keeps t.it t.newest in
    let g = more.2 in
    record {
      it = more.0;
      newest = more.1;
      listens = g.listener ∙ t.listens;
      remote = g.remote (record { address = to; id = dest }) t.remote;
      names = g.names (record { address = to; id = dest }) t.remote ∙ t.names ∙ sym same;
    }

pub tells_kept : (setting : Setting) (old new : List Made) (from to : Address) (source : ℕ) (part : Part) →
    ((m : Made) → newest old from source ≡ Some m → (u : Made) × (newest new from source ≡ Some u) × Grows m u) →
    ((dest : ℕ) (kind : OpenKind) → part ≡ Open kind dest
    → named setting new (Some (record { address = to; id = dest }))
    ≡ named setting old (Some (record { address = to; id = dest }))) →
    Tells setting old from to source part → Tells setting new from to source part
tells_kept setting old new from to source (Open Acknowledgement dest) keeps same t =
    told_kept setting old new from to false source dest keeps (same dest Acknowledgement refl) t
tells_kept setting old new from to source (Open RequestAndAcknowledgement dest) keeps same t =
    told_kept setting old new from to true source dest keeps (same dest RequestAndAcknowledgement refl) t
tells_kept setting old new from to source (Open Request dest) keeps same t = tt
tells_kept setting old new from to source (Open Denial dest) keeps same t = tt
tells_kept setting old new from to source other keeps same t = t

pub mutual_kept : (old new : List Made) (m u : Made) (b : ℕ)
    → ((w : Made) → born old b ≡ Some w → (v : Made) × (born new b ≡ Some v) × Grows w v) → Grows m u → Mutual old m b
    → Mutual new u b
mutual_kept old new m u b keeps grows h =
    let more = keeps h.peer h.there in
    let g = more.2 in
    record {
      peer = more.0;
      there = more.1;
      names = grows.remote (number_of h.peer) h.names
          ∙ ap Some (λ i. record { address = sym g.owner i; id = sym g.id i });
      named = g.remote (number_of m) h.named
          ∙ ap Some (λ i. record { address = sym grows.owner i; id = sym grows.id i });
      known = g.names (number_of m) h.named ∙ h.known ∙ ap Some (sym grows.birth);
      turned = g.listener ∙ h.turned ∙ ap not (sym grows.listener);
      back = λ listens. g.peer m.stream.birth (h.back (sym grows.listener ∙ listens)) ∙ ap Some (sym grows.birth);
    }
