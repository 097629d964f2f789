-- What a lookup found lies on the network, in range.
use Rattle.std.proofs.Common.{◌≡◌, ℕ, zero, suc, ◌^◌, ◌<◌, Bool, true, false, List, [], ◌∷◌, length, drop, refl, sym}
use Rattle.std.proofs.Common.{ap, subst, ◌∙◌, arith}
use Rattle.std.specs.Prelude.{Contains, nat_lt, slice_index_or, ◌==◌, ◌&&◌}
use Rattle.std.specs.List.{AllByRecursion}
use Rattle.std.proofs.lemmas.Bool.{and_parts, eqb-true, ltb-true}
use Rattle.at_ddp.specs.Datagram.{IsAddress}
use Rattle.at_ddp.specs.declared.address.Address.{Address}
use Rattle.at_ddp.proofs.Alls.{all_implied}
use Rattle.at_nbp.specs.Lawfully.{IsInRange, IsLawfulSetting, IsNamed}
use Rattle.at_nbp.specs.Network.{AllTimely, FindStood, Happening, Setting, after}
use Rattle.at_nbp.specs.Tuples.{Entry}
use Rattle.at_nbp.specs.declared.find.Find.{Find}
use Rattle.at_nbp.specs.declared.name.Name.{Name}
use Rattle.at_nbp.specs.declared.names.Registered.{Registered}
use Rattle.at_steps.specs.NameHappenings.{is_names_socket}
use Rattle.at_steps.specs.StreamHappenings.{IsOpenable}
use Rattle.at_world.specs.Machine.NameGuards.{Directory}
use Rattle.at_world.proofs.Parts.Names.Moments.{Past}
use Rattle.at_world.proofs.Parts.Names.Stood.{none_there}

-- what holds of all entries holds of each
all_contained : {X : Type 0} (P : X → Type 0) (xs : List X) (x : X) → AllByRecursion P xs → Contains xs x → P x
all_contained {X} P xs x all (k, within, at) = go xs k all within at
  where
    go : (ys : List X) (i : ℕ) → AllByRecursion P ys → i < length ys → slice_index_or ys i x ≡ x → P x
    go [] i each less is = absurd (omega (arith, less))
    go (y ∷ ys) zero each less is = subst P is each.0
    go (y ∷ ys) (suc i) each less is = go ys i each.1 (omega (arith, less)) is

-- the older part of a history is one too
timely_dropped : (setting : Setting) (k : ℕ) (history : List Happening) → AllTimely setting history
    → AllTimely setting (drop k history)
timely_dropped setting zero history timely = timely
timely_dropped setting (suc k) [] timely = tt
timely_dropped setting (suc k) (h ∷ hs) timely = timely_dropped setting k hs timely.2

ranges_dropped : (k : ℕ) (history : List Happening) → AllByRecursion IsInRange history
    → AllByRecursion IsInRange (drop k history)
ranges_dropped zero history each = each
ranges_dropped (suc k) [] each = tt
ranges_dropped (suc k) (h ∷ hs) each = ranges_dropped k hs each.1

-- the names of every history are in range
abbrev pub AllNamed : Type 0
AllNamed = (setting : Setting) (history : List Happening) → IsLawfulSetting setting → AllTimely setting history
    → AllByRecursion IsInRange history → (at : Address)
    → AllByRecursion IsNamed ((after setting history).tables at).names

module _ (named : AllNamed) (net : ℕ) (small : net < 2 ^ 16) (setting : Setting) (history : List Happening)
    (past : List Directory) (p : Past net setting history past) (lawful : IsLawfulSetting setting)
    (timely : AllTimely setting history) (ranges : AllByRecursion IsInRange history) where
  openable : (event : ℕ) (pattern : Name) (f : Find) → FindStood setting history event pattern f → IsOpenable net f
  openable event pattern f found = go (is_names_socket net at) refl
    where
      at : Address
      at = (found.stood).at

      named_so : Address → Registered → Address
      named_so a r = record { net = a.net; node = a.node; socket = r.socket }

      address_is : f.address ≡ named_so at (found.stood).name
      address_is = let s = found.stood in ap (λ (x : Find). x.address) found.is ∙ ap (λ (t : Entry). t.address) s.is
          ∙ ap (λ (a : Address). named_so a s.name) s.owns

      go : (b : Bool) → is_names_socket net at ≡ b → IsOpenable net f
      go false e =
          let s = found.stood in
          let within = s.since in
          let then = p.each s.ago (omega (arith, within)) in
          none_there s.name ((after setting (drop s.ago history)).tables at).names
          ((then.moment).elsewhere at e) s.there
      go true e =
          let s = found.stood in
          let outer = and_parts (at.net == net) (nat_lt at.node 255 && (at.socket == 2)) e in
          let inner = and_parts (nat_lt at.node 255) (at.socket == 2) outer.1 in
          let on_net : at.net ≡ net = eqb-true at.net net outer.0 in
          let node : at.node < 255 = ltb-true at.node 255 inner.0 in
          let each = named setting (drop s.ago history) lawful (timely_dropped setting s.ago history timely)
          (ranges_dropped s.ago history ranges) at in
          let its = all_contained IsNamed ((after setting (drop s.ago history)).tables at).names s.name each s.there in
          let fits : IsAddress (named_so at s.name) =
          record {
            net = subst (λ k. k < 2 ^ 16) (sym on_net) small;
            node = omega (arith, node);
            socket = its.socket;
          } in
          (ap (λ (a : Address). a.net) address_is ∙ on_net, subst IsAddress (sym address_is) fits)

  pub all_openable : (event : ℕ) (pattern : Name) (finds : List Find)
      → AllByRecursion (FindStood setting history event pattern) finds → AllByRecursion (IsOpenable net) finds
  all_openable event pattern finds each = all_implied (FindStood setting history event pattern) (IsOpenable net) finds
      (openable event pattern) each
