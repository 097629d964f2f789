-- What a lookup found stood at some moment of the machine.
use Rattle.std.proofs.Common.{◌≡◌, ℕ, ◌+◌, ◌-◌, Bool, true, false, List, [], ◌∷◌, length, drop, refl, ap, subst, ◌∙◌}
use Rattle.std.proofs.Common.{arith}
use Rattle.std.specs.Prelude.{Contains}
use Rattle.std.specs.List.{AllByRecursion}
use Rattle.at_ddp.specs.declared.address.Address.{Address}
use Rattle.at_ddp.proofs.Alls.{all_implied}
use Rattle.at_nbp.specs.Lookups.{find_of}
use Rattle.at_nbp.specs.NameTables.{Table}
use Rattle.at_nbp.specs.Network.{FindStood, Happening, Setting, after}
use Rattle.at_nbp.specs.Replies.{entry_in}
use Rattle.at_nbp.specs.declared.find.Find.{Find}
use Rattle.at_nbp.specs.declared.name.Name.{Name}
use Rattle.at_nbp.specs.declared.names.Registered.{Registered}
use Rattle.at_steps.specs.NameHappenings.{is_names_socket}
use Rattle.at_world.specs.Machine.NameGuards.{Directory, Stood}
use Rattle.at_world.proofs.Parts.Names.Moments.{Past, is_socket_of}

pub none_there : {P : Type 0} (r : Registered) (names : List Registered) → names ≡ [] → Contains names r → P
none_there r [] is (k, within, at) = absurd (omega (arith, within))
none_there r (x ∷ names) is there = absurd cc

-- what stood in the network since an event stood in the machine since the moment after it
pub stood_since : (net : ℕ) (setting : Setting) (history : List Happening) (past : List Directory)
    → Past net setting history past → (event since : ℕ) → since ≡ event + 1 → (pattern : Name) (f : Find)
    → FindStood setting history event pattern f → Stood past since pattern f
stood_since net setting history past p event since is pattern f found = go (is_names_socket net at) refl
  where
    at : Address
    at = (found.stood).at

    go : (b : Bool) → is_names_socket net at ≡ b → Stood past since pattern f
    go false e =
        let s = found.stood in
        let within = s.since in
        let then = p.each s.ago (omega (arith, within)) in
        none_there s.name ((after setting (drop s.ago history)).tables at).names ((then.moment).elsewhere at e) s.there
    go true e =
        let s = found.stood in
        let within = s.since in
        let then = p.each s.ago (omega (arith, within)) in
        let same : (after setting (drop s.ago history)).tables at
        ≡ then.directory at.node = ap (after setting (drop s.ago history)).tables (is_socket_of net at e)
        ∙ (then.moment).here at.node in
        record {
          moment = length history - s.ago;
          later = omega (arith, within, is);
          directory = then.directory;
          stands = then.stands;
          node = at.node;
          name = s.name;
          there = subst (λ (t : Table). Contains t.names s.name) same s.there;
          is = found.is ∙ ap (find_of pattern) (s.is ∙ ap (λ (t : Table). entry_in t s.name) same);
        }

pub all_stood : (net : ℕ) (setting : Setting) (history : List Happening) (past : List Directory)
    → Past net setting history past → (event since : ℕ) → since ≡ event + 1 → (pattern : Name) (finds : List Find) →
    AllByRecursion (FindStood setting history event pattern) finds → AllByRecursion (Stood past since pattern) finds
all_stood net setting history past p event since is pattern finds each =
    all_implied (FindStood setting history event pattern) (Stood past since pattern) finds
    (stood_since net setting history past p event since is pattern) each
