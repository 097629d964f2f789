-- The names at each moment: those of the network after so many happenings.
use Rattle.std.proofs.Common.{◌≡◌, ℕ, zero, suc, ◌+◌, ◌-◌, ◌≤◌, true, false, List, [], ◌∷◌, ◌++◌, length, drop, Some}
use Rattle.std.proofs.Common.{refl, sym, ap, ◌∙◌, arith}
use Rattle.std.specs.Prelude.{slice_get, nat_lt, ◌==◌, ◌&&◌}
use Rattle.std.proofs.lemmas.Bool.{and_parts, eqb-true}
use Rattle.std.proofs.lemmas.List.{length-append}
use Rattle.at_ddp.specs.declared.address.Address.{Address}
use Rattle.at_nbp.specs.Network.{Happening, Network, Setting, after}
use Rattle.at_name_socket.specs.NameSockets.{names_of}
use Rattle.at_steps.specs.NameHappenings.{is_names_socket}
use Rattle.at_world.specs.Machine.NameGuards.{Directory}

-- the nodes of the network have these names, and no other address has any
pub record Moment (net : ℕ) (n : Network) (directory : Directory) : Type 0 where
  pub here : (k : ℕ) → n.tables (names_of net k) ≡ directory k
  pub elsewhere : (at : Address) → is_names_socket net at ≡ false → (n.tables at).names ≡ []

-- the moment so many happenings ago
pub record Ago (net : ℕ) (setting : Setting) (history : List Happening) (past : List Directory) (ago : ℕ) : Type 0 where
  pub directory : Directory
  pub stands : slice_get past (length history - ago) ≡ Some directory
  pub moment : Moment net (after setting (drop ago history)) directory

pub record Past (net : ℕ) (setting : Setting) (history : List Happening) (past : List Directory) : Type 0 where
  pub count : length past ≡ length history + 1
  pub each : (ago : ℕ) → ago ≤ length history → Ago net setting history past ago

-- ---- one moment more

get_last : {X : Type 0} (xs : List X) (x : X) (i : ℕ) → i ≡ length xs → slice_get (xs ++ x ∷ []) i ≡ Some x
get_last [] x zero is = refl
get_last [] x (suc i) is = absurd (omega (arith, is))
get_last (y ∷ ys) x zero is = absurd (omega (arith, is))
get_last (y ∷ ys) x (suc i) is = get_last ys x i (omega (arith, is))

get_left : {X : Type 0} (xs ys : List X) (i : ℕ) (x : X) → slice_get xs i ≡ Some x → slice_get (xs ++ ys) i ≡ Some x
get_left [] ys i x is = absurd cc
get_left (y ∷ xs) ys zero x is = is
get_left (y ∷ xs) ys (suc i) x is = get_left xs ys i x is

pub past_next : (net : ℕ) (setting : Setting) (history : List Happening) (h : Happening) (past : List Directory)
    (now : Directory) → Past net setting history past → Moment net (after setting (h ∷ history)) now
    → Past net setting (h ∷ history) (past ++ now ∷ [])
past_next net setting history h past now p m =
    record { count = let count = p.count in omega (arith, count, length-append past (now ∷ [])); each = each }
  where
    each : (ago : ℕ) → ago ≤ length (h ∷ history) → Ago net setting (h ∷ history) (past ++ now ∷ []) ago
    each zero le = let count = p.count in
        record {
          directory = now;
          stands = get_last past now (length (h ∷ history) - 0) (omega (arith, count));
          moment = m;
        }
    each (suc ago) le =
        let older = p.each ago (omega (arith, le)) in
        let same : length history - ago ≡ length (h ∷ history) - suc ago = omega arith in
        record {
          directory = older.directory;
          stands = ap (slice_get (past ++ now ∷ [])) (sym same)
              ∙ get_left past (now ∷ []) (length history - ago) older.directory older.stands;
          moment = older.moment;
        }

pub first_moment : (net : ℕ) (setting : Setting) (now : Directory) → Moment net (after setting []) now
    → Past net setting [] (now ∷ [])
first_moment net setting now m = record { count = refl; each = each }
  where
    each : (ago : ℕ) → ago ≤ 0 → Ago net setting [] (now ∷ []) ago
    each zero le = record { directory = now; stands = refl; moment = m }
    each (suc ago) le = absurd (omega (arith, le))

-- ---- the socket at an address

pub is_socket_of : (net : ℕ) (at : Address) → is_names_socket net at ≡ true → at ≡ names_of net at.node
is_socket_of net at is =
    let outer = and_parts (at.net == net) (nat_lt at.node 255 && (at.socket == 2)) is in
    let inner = and_parts (nat_lt at.node 255) (at.socket == 2) outer.1 in
    λ i. record { net = eqb-true at.net net outer.0 i; node = at.node; socket = eqb-true at.socket 2 inner.1 i }
