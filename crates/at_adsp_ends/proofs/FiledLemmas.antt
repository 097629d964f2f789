-- The ends stay filed, as one of them is made, changes, gets its remote, or goes.
use Rattle.std.proofs.Common.{◌≡◌, ℕ, zero, suc, ◌+◌, ◌≤◌, Bool, true, false, cond, nat_eq, List, [], ◌∷◌, ◌++◌}
use Rattle.std.proofs.Common.{map, set, slice_get, Option, Some, None, refl, sym, ap, subst, ◌∙◌, arith}
use Rattle.std.specs.Prelude.{◌==◌, count_by, find, is_none, option_map, remove}
use Rattle.std.specs.List.{AllByRecursion, IsDistinct, list_any, position_from}
use Rattle.std.proofs.lemmas.Bool.{eq-eqb, or_parts, true≢false}
use Rattle.std.proofs.lemmas.List.Sums.{sum_by-append, sum_by-remove, sum_by-set}
use Rattle.std.proofs.lemmas.Option.{get_or_from_slice_get, same_Some, slice_get_within}
use Rattle.at_ddp.proofs.Alls.{all_at, all_both, all_found, find_last}
use Rattle.at_ddp.proofs.EqualLemmas.{turned}
use Rattle.at_ddp.proofs.Octets.{same_both}
use Rattle.at_table.specs.Rows.{AreKeyed, Rows, with_item}
use Rattle.at_adsp_end.specs.Ends.{EndState, has_remote, is_opening, is_remote, same_remote}
use Rattle.at_adsp_end.specs.declared.remote.Remote.{Remote}
use Rattle.at_adsp_ends.specs.Filed.{AreFiled, has_no_remote, id_of, same_key}
use Rattle.at_adsp_ends.specs.Tables.{IdsDiffer, RemotesDiffer, has_id, shares}
use Rattle.at_adsp_ends.proofs.DistinctLemmas.{all_set}
use Rattle.at_adsp_ends.proofs.FindLemmas.{find_alike, find_missed, find_only, find_pushed, find_removed, no_place}
use Rattle.at_adsp_ends.proofs.FindLemmas.{none_found}
use Rattle.at_adsp_ends.proofs.TableLaws.{remote_turned}
use Rattle.at_ddp.proofs.CaseLemmas.{regrouped}

-- ---- remotes

pub remote_is : (a b : Remote) → same_remote a b ≡ true → a ≡ b
remote_is a b h = let both = same_both a.address b.address a.id b.id h in
    λ j. record { address = both.0 j; id = both.1 j }

-- keys of the index are equal as their remotes are
pub same_as : (a b : Remote) → same_key (a.address, a.id) (b.address, b.id) ≡ same_remote b a
same_as a b = regrouped (a.address.net == b.address.net) (a.address.node == b.address.node)
    (a.address.socket == b.address.socket) (a.id == b.id) ∙ remote_turned a b

pub own_remote : (r : Remote) (e : EndState) → has_remote r e ≡ true → e.remote ≡ Some r
own_remote r e h = go e.remote h
  where
    go : (o : Option Remote) → is_remote r o ≡ true → o ≡ Some r
    go None g = absurd (cc)
    go (Some q) g = ap Some (sym (remote_is r q g))

-- no other end has the remote of this one
others_apart : (r : Remote) (e : EndState) (ends : List EndState) → has_remote r e ≡ true
    → AllByRecursion (λ x. shares e.remote x ≡ false) ends → find (has_remote r) ends ≡ None
others_apart r e ends h apart =
    none_found (has_remote r) ends (subst (λ o. AllByRecursion (λ x. shares o x ≡ false) ends) (own_remote r e h) apart)

pub gone : (r : Remote) (ends : List EndState) (i : ℕ) (e : EndState) → RemotesDiffer ends → slice_get ends i ≡ Some e
    → has_remote r e ≡ true → find (has_remote r) (remove ends i) ≡ None
unfolding IsDistinct
gone r [] i e differ at has = absurd (cc)
gone r (x ∷ ends) zero e differ at has =
    let here : x ≡ e = cc in
    others_apart r x ends (ap (has_remote r) here ∙ has) differ.0
gone r (x ∷ ends) (suc i) e differ at has = go (gone r ends i e differ.1 at has) (has_remote r x) refl
  where
    go : find (has_remote r) (remove ends i) ≡ None → (b : Bool) → has_remote r x ≡ b
        → cond b (Some x) (find (has_remote r) (remove ends i)) ≡ None
    go ih true is =
        let apart : shares x.remote e ≡ false = all_at (λ y. shares x.remote y ≡ false) ends i e differ.0 at in
        absurd (true≢false (sym has ∙ ap (λ o. shares o e) (sym (own_remote r x is)) ∙ apart))
    go ih false is = ih

-- the place of the end with a remote is the place of its identifier
pub same_place : (r : Remote) (id n : ℕ) (ends : List EndState) (e : EndState) → IdsDiffer ends
    → find (has_remote r) ends ≡ Some e → e.id ≡ id
    → position_from (has_id id) n ends ≡ position_from (has_remote r) n ends
unfolding IsDistinct
same_place r id n [] e differ some its = absurd (cc)
same_place r id n (x ∷ ends) e differ some its =
    go (λ g. same_place r id (n + 1) ends e differ.1 g its) (has_remote r x) some
  where
    go : (find (has_remote r) ends ≡ Some e
        → position_from (has_id id) (n + 1) ends ≡ position_from (has_remote r) (n + 1) ends) → (b : Bool)
        → cond b (Some x) (find (has_remote r) ends) ≡ Some e
        → cond (has_id id x) (Some n) (position_from (has_id id) (n + 1) ends)
        ≡ cond b (Some n) (position_from (has_remote r) (n + 1) ends)
    go ih true g =
        let here : x ≡ e = cc in
        let hit : has_id id x ≡ true = eq-eqb x.id id (ap id_of here ∙ its) in
        rw hit refl
    go ih false g =
        let apart = (all_found (λ y. has_id x.id y ≡ false) (has_remote r) ends e differ.0 g).0 in
        let miss : has_id id x ≡ false = turned x.id id ∙ ap (λ k. k == x.id) (sym its) ∙ apart in
        rw miss (ih g)

-- ---- how many have no remote

abbrev pub lacks : EndState → ℕ
lacks e = cond (has_no_remote e) 1 0

pub count_pushed : (ends : List EndState) (e : EndState)
    → count_by has_no_remote (ends ++ e ∷ []) ≡ count_by has_no_remote ends + lacks e
count_pushed ends e = omega (arith, sum_by-append lacks ends (e ∷ []))

count_set : (ends : List EndState) (i : ℕ) (e y : EndState) → slice_get ends i ≡ Some e
    → count_by has_no_remote (set ends i y) + lacks e ≡ count_by has_no_remote ends + lacks y
count_set ends i e y at = ap (λ x. count_by has_no_remote (set ends i y) + lacks x)
    (sym (get_or_from_slice_get ends i e e at)) ∙ sum_by-set lacks ends i y e (slice_get_within ends i e at)

pub count_removed : (ends : List EndState) (i : ℕ) (e : EndState) → slice_get ends i ≡ Some e
    → count_by has_no_remote (remove ends i) + lacks e ≡ count_by has_no_remote ends
count_removed ends i e at = ap (λ x. count_by has_no_remote (remove ends i) + lacks x)
    (sym (get_or_from_slice_get ends i e e at)) ∙ sum_by-remove lacks ends i e (slice_get_within ends i e at)

-- ---- what holds of the ends

all_removed : {X : Type 0} (P : X → Type 0) (xs : List X) (i : ℕ) → AllByRecursion P xs
    → AllByRecursion P (remove xs i)
all_removed P [] zero h = tt
all_removed P [] (suc i) h = tt
all_removed P (x ∷ xs) zero h = h.1
all_removed P (x ∷ xs) (suc i) h = (h.0, all_removed P xs i h.1)

abbrev pub AsksAlone : EndState → Type 0
AsksAlone e = is_opening e.phase ≡ true → e.remote ≡ None

-- the index has this under the remote of an end, if it has one, and otherwise what it had
abbrev pub Turns : (Remote → Option ℕ) → (Remote → Option ℕ) → EndState → Option ℕ → Type 0
Turns old new e now = (r : Remote) → new r ≡ cond (has_remote r e) now (old r)

-- what is under a remote leads to the place of the end that has it
pub none_under : {t : Rows ℕ EndState} {id_under : Remote → Option ℕ} {room : ℕ} → AreFiled t id_under room
    → (r : Remote) → id_under r ≡ None → position_from (has_remote r) 0 t.items ≡ None
none_under {t} filed r none = no_place (has_remote r) 0 t.items
    (go (find (has_remote r) t.items) (sym (filed.by_remote r) ∙ none))
  where
    go : (o : Option EndState) → option_map id_of o ≡ None → o ≡ None
    go None h = refl
    go (Some e) h = absurd (cc)

pub some_under : {t : Rows ℕ EndState} {id_under : Remote → Option ℕ} {room : ℕ} → AreFiled t id_under room
    → IdsDiffer t.items → (r : Remote) (id : ℕ) → id_under r ≡ Some id
    → position_from (has_id id) 0 t.items ≡ position_from (has_remote r) 0 t.items
some_under {t} filed differ r id some = go (find (has_remote r) t.items) refl (sym (filed.by_remote r) ∙ some)
  where
    go : (o : Option EndState) → find (has_remote r) t.items ≡ o → option_map id_of o ≡ Some id
        → position_from (has_id id) 0 t.items ≡ position_from (has_remote r) 0 t.items
    go None is h = absurd (cc)
    go (Some e) is h = same_place r id 0 t.items e differ is (same_Some e.id id h)

-- the end that a table of filed ends lends
pub record Lent (t : Rows ℕ EndState) (id_under : Remote → Option ℕ) (room i : ℕ) (e : EndState) : Type 0 where
  pub filed : AreFiled t id_under room
  pub at : slice_get t.items i ≡ Some e
  pub keyed : (y : EndState) → y.id ≡ e.id → AreKeyed id_of (with_item t i y)

pub lent_at : {t : Rows ℕ EndState} {id_under : Remote → Option ℕ} {room i : ℕ} {e : EndState}
    → AreFiled t id_under room → slice_get t.items i ≡ Some e
    → ((key_of : EndState → ℕ) → AreKeyed key_of t → (y : EndState) → key_of y ≡ key_of e
    → AreKeyed key_of (with_item t i y)) → Lent t id_under room i e
lent_at filed at keyed = record { filed = filed; at = at; keyed = keyed id_of filed.keyed }

-- an identifier that no end has is no key
pub fresh_key : {t : Rows ℕ EndState} {id_under : Remote → Option ℕ} {room : ℕ} → AreFiled t id_under room → (id : ℕ)
    → list_any (has_id id) t.items ≡ false → position_from (nat_eq id) 0 t.keys ≡ None
fresh_key {t} filed id free = ap (position_from (nat_eq id) 0) filed.keyed ∙ go 0 t.items free
  where
    go : (n : ℕ) (ends : List EndState) → list_any (has_id id) ends ≡ false
        → position_from (nat_eq id) n (map id_of ends) ≡ None
    go n [] h = refl
    go n (x ∷ ends) h =
        let parts = or_parts (x.id == id) (list_any (has_id id) ends) h in
        rw (turned id x.id ∙ parts.0) (go (n + 1) ends parts.1)

pub none_filed : (t : Rows ℕ EndState) (id_under : Remote → Option ℕ) (room : ℕ) → t.keys ≡ [] → t.items ≡ []
    → ((r : Remote) → id_under r ≡ None) → AreFiled t id_under room
none_filed t id_under room keys items none = record {
  keyed = keys ∙ ap (map id_of) (sym items);
  by_remote = λ r. none r ∙ ap (λ l. option_map id_of (find (has_remote r) l)) (sym items);
  fits = omega (arith, ap (count_by has_no_remote) items);
  asking = subst (λ l. AllByRecursion AsksAlone l) (sym items) tt;
}

module _ {t : Rows ℕ EndState} {id_under : Remote → Option ℕ} {room : ℕ} (filed : AreFiled t id_under room) where
  -- an end is made, whose remote no end has
  pub filed_pushed : (later : Rows ℕ EndState) (under : Remote → Option ℕ) (left : ℕ) (e : EndState)
      → later.items ≡ t.items ++ e ∷ [] → AreKeyed id_of later → Turns id_under under e (Some e.id)
      → ((r : Remote) → has_remote r e ≡ true → find (has_remote r) t.items ≡ None)
      → count_by has_no_remote t.items + lacks e ≤ left → AsksAlone e → AreFiled later under left
  filed_pushed later under left e items keyed turns fresh fits alone = record {
    keyed = keyed;
    by_remote = λ r. turns r ∙ go r (has_remote r e) refl
        ∙ ap (λ l. option_map id_of (find (has_remote r) l)) (sym items);
    fits = omega (arith, fits, ap (count_by has_no_remote) items, count_pushed t.items e);
    asking = subst (λ l. AllByRecursion AsksAlone l) (sym items)
        (all_both AsksAlone t.items (e ∷ []) filed.asking (alone, tt));
  }
    where
      go : (r : Remote) (b : Bool) → has_remote r e ≡ b
          → cond b (Some e.id) (id_under r) ≡ option_map id_of (find (has_remote r) (t.items ++ e ∷ []))
      go r true is = ap (option_map id_of) (sym (find_last (has_remote r) t.items e (fresh r is) is))
      go r false is = filed.by_remote r ∙ ap (option_map id_of) (sym (find_pushed (has_remote r) t.items e is))

  module _ (i : ℕ) (e : EndState) (at : slice_get t.items i ≡ Some e) where
    -- an end goes, and its remote with it
    pub filed_removed : (later : Rows ℕ EndState) (under : Remote → Option ℕ) (left : ℕ)
        → later.items ≡ remove t.items i → AreKeyed id_of later → Turns id_under under e None → RemotesDiffer t.items
        → room ≤ left → AreFiled later under left
    filed_removed later under left items keyed turns differ kept = record {
      keyed = keyed;
      by_remote = λ r. turns r ∙ go r (has_remote r e) refl
          ∙ ap (λ l. option_map id_of (find (has_remote r) l)) (sym items);
      fits = omega (arith, filed.fits, kept, ap (count_by has_no_remote) items, count_removed t.items i e at);
      asking = subst (λ l. AllByRecursion AsksAlone l) (sym items) (all_removed AsksAlone t.items i filed.asking);
    }
      where
        go : (r : Remote) (b : Bool) → has_remote r e ≡ b
            → cond b None (id_under r) ≡ option_map id_of (find (has_remote r) (remove t.items i))
        go r true is = ap (option_map id_of) (sym (gone r t.items i e differ at is))
        go r false is = filed.by_remote r
            ∙ ap (option_map id_of) (sym (find_removed (has_remote r) t.items i e at is))

module _ {t : Rows ℕ EndState} {id_under : Remote → Option ℕ} {room i : ℕ} {e : EndState}
    (lent : Lent t id_under room i e) (y : EndState) (same : y.id ≡ e.id) where
  -- an end changes, and keeps its remote
  pub filed_kept : y.remote ≡ e.remote → (is_opening y.phase ≡ true → is_opening e.phase ≡ true)
      → AreFiled (with_item t i y) id_under room
  filed_kept its asks = record {
    keyed = lent.keyed y same;
    by_remote = λ r. lent.filed.by_remote r
        ∙ sym (find_alike (has_remote r) id_of t.items i e y lent.at (ap (is_remote r) its) same);
    fits = omega (arith, lent.filed.fits, count_set t.items i e y lent.at, ap {B = ℕ} (λ o. cond (is_none o) 1 0) its);
    asking = all_set AsksAlone t.items i y lent.filed.asking
        (λ h. its ∙ all_at AsksAlone t.items i e lent.filed.asking lent.at (asks h));
  }

  -- an end gets its remote, which no end has, and waits for no answer any more
  pub filed_opened : (under : Remote → Option ℕ) (left : ℕ) → e.remote ≡ None
      → ((r : Remote) → has_remote r y ≡ true → find (has_remote r) t.items ≡ None)
      → Turns id_under under y (Some y.id) → lacks y ≡ 0 → room ≤ left + 1 → is_opening y.phase ≡ false
      → AreFiled (with_item t i y) under left
  filed_opened under left none fresh turns known kept opened = record {
    keyed = lent.keyed y same;
    by_remote = λ r. turns r ∙ go r (has_remote r y) refl;
    fits =
        let one = ap {B = ℕ} (λ o. cond (is_none o) 1 0) none in
        omega (arith, lent.filed.fits, count_set t.items i e y lent.at, one, known, kept);
    asking = all_set AsksAlone t.items i y lent.filed.asking (λ h. absurd (true≢false (sym h ∙ opened)));
  }
    where
      go : (r : Remote) (b : Bool) → has_remote r y ≡ b
          → cond b (Some y.id) (id_under r) ≡ option_map id_of (find (has_remote r) (set t.items i y))
      go r true is = ap (option_map id_of) (sym (find_only (has_remote r) t.items i e y lent.at (fresh r is) is))
      go r false is = lent.filed.by_remote r ∙ ap (option_map id_of)
          (sym (find_missed (has_remote r) t.items i e y lent.at (ap (is_remote r) none) is))
