-- What holds of a table holds after each change of it.
use Rattle.std.proofs.Common.{◌≡◌, ℕ, Bool, true, false, List, [], ◌∷◌, set, slice_get, Option, Some, None, refl, sym}
use Rattle.std.proofs.Common.{ap, subst, ◌∙◌, arith}
use Rattle.std.specs.Prelude.{◌==◌, ◌&&◌, find, remove}
use Rattle.std.specs.List.{AllByRecursion, IsDistinct}
use Rattle.std.proofs.lemmas.Bool.Decides.{nat_tests}
use Rattle.std.proofs.lemmas.List.{length-append, length-set}
use Rattle.at_ddp.proofs.EqualLemmas.{turned}
use Rattle.at_ddp.specs.Address.{same_address}
use Rattle.at_ddp.specs.Tables.{replaced, without_first}
use Rattle.at_ddp.specs.declared.address.Address.{Address}
use Rattle.at_ddp.proofs.Alls.{all_both, all_implied, all_without, none_any, none_met}
use Rattle.at_ddp.proofs.DistinctLemmas.{differ_append, differ_without}
use Rattle.at_ddp.proofs.CountLemmas.{length_without}
use Rattle.at_adsp_end.specs.Ends.{EndState, has_remote, is_remote, same_remote}
use Rattle.at_adsp_end.specs.declared.remote.Remote.{Remote}
use Rattle.at_adsp_end.specs.declared.rooms.Rooms.{Rooms}
use Rattle.at_adsp_ends.specs.Tables.{AreEnds, AreRooms, EndTable, IsId, has_id, next_id, no_ends, shares, with_end}
use Rattle.at_adsp_ends.specs.Tables.{without_end}
use Rattle.at_adsp_ends.proofs.DistinctLemmas.{Stands, all_set, all_stands, differ_new, differ_set, gone_by, set_by}
use Rattle.at_adsp_ends.proofs.Places.{stands_at}
use Rattle.at_adsp_ends.proofs.IdLemmas.{following_id, next_drawn}

-- ---- equal either way

address_turned : (a b : Address) → same_address a b ≡ same_address b a
address_turned a b = λ i. turned a.net b.net i && turned a.node b.node i && turned a.socket b.socket i

pub remote_turned : (a b : Remote) → same_remote a b ≡ same_remote b a
remote_turned a b = λ i. address_turned a.address b.address i && turned a.id b.id i

shared : Option Remote → Option Remote → Bool
shared None b = false
shared (Some r) b = is_remote r b

shares_is : (a : Option Remote) (y : EndState) → shares a y ≡ shared a y.remote
unfolding shared
shares_is None y = refl
shares_is (Some r) y = refl

shared_turned : (a b : Option Remote) → shared a b ≡ shared b a
unfolding shared
shared_turned None None = refl
shared_turned None (Some r) = refl
shared_turned (Some q) None = refl
shared_turned (Some q) (Some r) = remote_turned q r

shares_turned : (x y : EndState) → shares x.remote y ≡ shares y.remote x
shares_turned x y = shares_is x.remote y ∙ shared_turned x.remote y.remote ∙ sym (shares_is y.remote x)

-- ---- an end in its place

id_apart : (e x : EndState) → has_id x.id e ≡ false → has_id e.id x ≡ false
id_apart e x h = turned x.id e.id ∙ h

id_own : (e : EndState) → has_id e.id e ≡ true
id_own e = grind (arith, nat_tests)

pub changed_in : (ends : List EndState) (i : ℕ) (e y : EndState) → IsDistinct (λ a b. has_id a.id b) ends
    → Stands ends i e → y.id ≡ e.id → replaced (has_id y.id) y ends ≡ set ends i y
changed_in ends i e y differ s same =
    ap (λ id. replaced (has_id id) y ends) same
    ∙ set_by (λ a b. has_id a.id b) (has_id e.id) ends i e y (id_own e) (λ x h. id_apart e x h) s differ

pub removed_in : (ends : List EndState) (i : ℕ) (e : EndState) → IsDistinct (λ a b. has_id a.id b) ends
    → Stands ends i e → without_first (has_id e.id) ends ≡ remove ends i
removed_in ends i e differ s = gone_by (λ a b. has_id a.id b) (has_id e.id) ends i e (id_own e)
    (λ x h. id_apart e x h) s differ

-- ---- tables

shares_like : (x y e : EndState) → y.remote ≡ e.remote → shares x.remote y ≡ shares x.remote e
shares_like x y e same = shares_is x.remote y ∙ ap (shared x.remote) same ∙ sym (shares_is x.remote e)

-- an end changed, and is connected as it was
pub changed_lawful : (t : EndTable) (i : ℕ) (e y : EndState) → AreEnds t → Stands t.ends i e → y.id ≡ e.id → y.remote
    ≡ e.remote → AreEnds (record t { ends = set t.ends i y })
changed_lawful t i e y h s id remote = record {
  few = let n = length-set t.ends i y in let few = h.few in omega (arith, n, few);
  next = h.next;
  rooms = h.rooms;
  ids = all_set (λ x. IsId x.id) t.ends i y h.ids
      (subst IsId (sym id) (all_stands (λ x. IsId x.id) t.ends i e h.ids s));
  ids_differ = differ_set (λ a b. has_id a.id b) t.ends i e y (λ x. ap (λ n. has_id n x) id)
      (λ x. ap (λ n. n == x.id) id) s h.ids_differ;
  remotes_differ = differ_set (λ a b. shares a.remote b) t.ends i e y (λ x. ap (λ r. shares r x) remote)
      (λ x. shares_like x y e remote) s h.remotes_differ;
}

-- an end is connected that no end here was connected to
pub connected_lawful : (t : EndTable) (i : ℕ) (e y : EndState) (r : Remote) → AreEnds t → Stands t.ends i e → y.id
    ≡ e.id → y.remote ≡ Some r → find (has_remote r) t.ends ≡ None → AreEnds (record t { ends = set t.ends i y })
connected_lawful t i e y r h s id remote none =
    let all = none_met (has_remote r) t.ends none in
    record {
      few = let n = length-set t.ends i y in let few = h.few in omega (arith, n, few);
      next = h.next;
      rooms = h.rooms;
      ids = all_set (λ x. IsId x.id) t.ends i y h.ids
          (subst IsId (sym id) (all_stands (λ x. IsId x.id) t.ends i e h.ids s));
      ids_differ = differ_set (λ a b. has_id a.id b) t.ends i e y (λ x. ap (λ n. has_id n x) id)
          (λ x. ap (λ n. n == x.id) id) s h.ids_differ;
      remotes_differ =
          differ_new (λ a b. shares a.remote b) t.ends i y
          (all_implied (λ x. has_remote r x ≡ false) (λ x. shares y.remote x ≡ false) t.ends
          (λ x g. ap (λ o. shares o x) remote ∙ g) all)
          (all_implied (λ x. has_remote r x ≡ false) (λ x. shares x.remote y ≡ false) t.ends
          (λ x g. shares_turned x y ∙ ap (λ o. shares o x) remote ∙ g) all) h.remotes_differ;
    }

pub removed_lawful : (t : EndTable) (id : ℕ) → AreEnds t → AreEnds (without_end t id)
removed_lawful t id h = record {
  few = let n = length_without (has_id id) t.ends in let few = h.few in omega (arith, n, few);
  next = h.next;
  rooms = h.rooms;
  ids = all_without (λ x. IsId x.id) (has_id id) t.ends h.ids;
  ids_differ = differ_without (λ a b. has_id a.id b) (has_id id) t.ends h.ids_differ;
  remotes_differ = differ_without (λ a b. shares a.remote b) (has_id id) t.ends h.remotes_differ;
}

-- an end in its place goes
pub gone_lawful : (t : EndTable) (i : ℕ) (e : EndState) (rest : List EndState) → AreEnds t → slice_get t.ends i ≡ Some e
    → rest ≡ remove t.ends i → AreEnds (record t { ends = rest })
gone_lawful t i e rest h at is =
    subst (λ (l : List EndState). AreEnds (record t { ends = l }))
    (removed_in t.ends i e h.ids_differ (stands_at at) ∙ sym is) (removed_lawful t e.id h)

-- an end is made, and no end here is connected to its remote
pub made_lawful : (t : EndTable) (e : EndState) → AreEnds t → next_id t ≡ Some e.id
    → AllByRecursion (λ x. shares x.remote e ≡ false) t.ends → AreEnds (with_end t e)
made_lawful t e h drawn apart =
    let d = next_drawn t e.id h.next drawn in
    record {
      few = let n = length-append t.ends (e ∷ []) in let few = d.few in omega (arith, n, few);
      next = following_id e.id;
      rooms = h.rooms;
      ids = all_both (λ x. IsId x.id) t.ends (e ∷ []) h.ids (d.drawn.is, tt);
      ids_differ = differ_append (λ a b. has_id a.id b) t.ends e h.ids_differ
          (all_implied (λ x. has_id e.id x ≡ false) (λ x. has_id x.id e ≡ false) t.ends
          (λ x g. turned e.id x.id ∙ g) (none_any (has_id e.id) t.ends d.drawn.free));
      remotes_differ = differ_append (λ a b. shares a.remote b) t.ends e h.remotes_differ apart;
    }

pub apart_none : (ends : List EndState) (e : EndState) → e.remote ≡ None
    → AllByRecursion (λ x. shares x.remote e ≡ false) ends
apart_none [] e none = tt
apart_none (x ∷ ends) e none = (shares_turned x e ∙ ap (λ o. shares o x) none, apart_none ends e none)

pub apart_new : (ends : List EndState) (e : EndState) (r : Remote) → e.remote ≡ Some r → find (has_remote r) ends
    ≡ None → AllByRecursion (λ x. shares x.remote e ≡ false) ends
apart_new ends e r is none = all_implied (λ x. has_remote r x ≡ false) (λ x. shares x.remote e ≡ false) ends
    (λ x g. shares_turned x e ∙ ap (λ o. shares o x) is ∙ g) (none_met (has_remote r) ends none)

pub none_lawful : (rooms : Rooms) → AreRooms rooms → AreEnds (no_ends rooms)
unfolding IsDistinct
none_lawful rooms h = record {
  few = omega arith;
  next = record { some = omega arith; fits = omega arith };
  rooms = h;
  ids = tt;
  ids_differ = tt;
  remotes_differ = tt;
}
