-- The finds that join, tuple by tuple.
use Rattle.std.proofs.Common.{◌≡◌, ℕ, ◌+◌, ◌-◌, ◌≤◌, Bool, true, false, cond, List, [], ◌∷◌, ◌++◌, length, set}
use Rattle.std.proofs.Common.{Some, None, refl, sym, ap, subst, ◌∙◌, arith}
use Rattle.std.specs.Prelude.{find, IfOk, IsOk, OnErr, OnOk, Result, Ok, Err}
use Rattle.std.proofs.lemmas.List.{length-append, set-get_or}
use Rattle.at_ddp.proofs.TableLemmas.{Found}
use Rattle.at_nbp.specs.Lookups.{AreLookups, Heard, Lookups, Search, all_joined, answered, find_of, has_id, heard}
use Rattle.at_nbp.specs.Lookups.{is_reply, joined, joins, reply_came}
use Rattle.at_nbp.specs.Packets.{Content}
use Rattle.at_nbp.specs.Tuples.{Entry}
use Rattle.at_nbp.specs.declared.find.Find.{Find}
use Rattle.at_nbp.specs.declared.name.Name.{Name}
use Rattle.at_nbp.proofs.LookupLaws.{heard_lawful}

-- a tuple that does not join leaves the finds
pub passed_over : (pattern : Name) (finds : List Find) (old new : List Entry) (t : Entry) (f : Find) → old ≡ t ∷ new
    → f ≡ find_of pattern t → joins pattern finds f ≡ false → all_joined pattern finds old
    ≡ all_joined pattern finds new
passed_over pattern finds old new t f is read misses =
    let same : joined pattern finds (find_of pattern t) ≡ finds = ap (joined pattern finds) (sym read)
    ∙ ap (λ b. cond b (finds ++ f ∷ []) finds) misses in
    ap (all_joined pattern finds) is ∙ ap (λ l. all_joined pattern l new) same

-- and one that joins stands behind them
pub joined_next : (pattern : Name) (finds : List Find) (old new : List Entry) (t : Entry) (f : Find) → old ≡ t ∷ new
    → f ≡ find_of pattern t → joins pattern finds f ≡ true → all_joined pattern finds old
    ≡ all_joined pattern (finds ++ f ∷ []) new
joined_next pattern finds old new t f is read hits =
    let one : joined pattern finds (find_of pattern t) ≡ finds ++ f ∷ [] = ap (joined pattern finds) (sym read)
    ∙ ap (λ b. cond b (finds ++ f ∷ []) finds) hits in
    ap (all_joined pattern finds) is ∙ ap (λ l. all_joined pattern l new) one

-- the finds never get fewer
pub grows : (pattern : Name) (finds : List Find) (ts : List Entry) → length finds ≤ length (all_joined pattern finds ts)
grows pattern finds [] = omega arith
grows pattern finds (t ∷ ts) = go (λ l. grows pattern l ts) (joins pattern finds (find_of pattern t))
  where
    go : ((l : List Find) → length l ≤ length (all_joined pattern l ts)) → (b : Bool)
        → length finds ≤ length (all_joined pattern (cond b (finds ++ find_of pattern t ∷ []) finds) ts)
    go ih true = omega (arith, ih (finds ++ find_of pattern t ∷ []), length-append finds (find_of pattern t ∷ []))
    go ih false = ih finds

-- ---- what comes of a reply

pub heard_none : (l : Lookups) (p : Content) → is_reply p.function ≡ true → find (has_id p.id) l.searches ≡ None
    → heard l p ≡ record { count = 0; after = l }
heard_none l p reply none = rw (reply, none) refl

pub heard_some : (l : Lookups) (p : Content) (s : Search) → is_reply p.function ≡ true → find (has_id p.id) l.searches
    ≡ Some s → heard l p ≡ reply_came l p (Some s)
heard_some l p s reply some = rw (reply, some) refl

pub heard_count : (l : Lookups) (p : Content) {E : Type 0} (s : Search) (r : Result ℕ E) → heard l p
    ≡ reply_came l p (Some s) → IfOk r (λ n. length s.finds + n ≡ length (answered s p.tuples).finds) →
    IfOk r (λ n. n ≡ (heard l p).count)
heard_count l p s (Ok n) is counted = let less : n ≡ length (answered s p.tuples).finds - length s.finds =
    omega (arith, counted) in less ∙ ap (λ (h : Heard). h.count) (sym is)
heard_count l p s (Err e) is counted = tt

-- the search in its place becomes the answered one
pub heard_as : {E : Type 0} (l : Lookups) (p : Content) (i : ℕ) (f : Found (has_id p.id) l.searches i) (r : Result ℕ E)
    (new : Search) → is_reply p.function ≡ true →
    OnOk r (new ≡ answered f.entry p.tuples) → OnOk r (record l { searches = set l.searches i new } ≡ (heard l p).after)
heard_as l p i f (Ok n) new reply is =
    ap (λ (s : Search). record l { searches = set l.searches i s }) is
    ∙ ap (λ (k : List Search). record l { searches = k }) (sym (f.set_is (answered f.entry p.tuples)))
    ∙ ap (λ (h : Heard). h.after) (sym (heard_some l p f.entry reply f.first))
heard_as l p i f (Err e) new reply is = tt

-- what a search says of the reply that it heard
pub record IsHeardBy {E : Type 0} (s : Search) (tuples : List Entry) (r : Result ℕ E) (new : Search) : Type 0 where
  pub state : OnOk r (new ≡ answered s tuples)
  pub count : IfOk r (λ n. length s.finds + n ≡ length (answered s tuples).finds)
  pub unchanged : OnErr r (new ≡ s)
  pub none : length (answered s tuples).finds ≡ length s.finds → IsOk r

-- put back as it was, a search leaves the table
pub stays : {E : Type 0} (l : Lookups) (id i : ℕ) (f : Found (has_id id) l.searches i) (r : Result ℕ E) (new : Search)
    → OnErr r (new ≡ f.entry) → OnErr r (record l { searches = set l.searches i new } ≡ l)
stays l id i f (Ok n) new same = tt
stays l id i f (Err e) new same = ap (λ (s : Search). record l { searches = set l.searches i s })
    (same ∙ sym (f.at f.entry))
    ∙ ap (λ (k : List Search). record l { searches = k }) (set-get_or l.searches i f.entry)

-- if no find is counted, none joined
pub heard_quiet : (l : Lookups) (p : Content) (s : Search) → heard l p ≡ reply_came l p (Some s) → (heard l p).count
    ≡ 0 → length (answered s p.tuples).finds ≡ length s.finds
heard_quiet l p s is quiet =
    let none : length (answered s p.tuples).finds - length s.finds ≡ 0 = ap (λ (h : Heard). h.count) (sym is) ∙ quiet in
    omega (arith, none, grows s.pattern s.finds p.tuples)

-- the table stays lawful, also if the reply is refused
pub set_lawful : {E : Type 0} (l : Lookups) (p : Content) (i : ℕ) (f : Found (has_id p.id) l.searches i)
    (r : Result ℕ E) (new : Search) → is_reply p.function ≡ true →
    OnOk r (new ≡ answered f.entry p.tuples) → OnErr r (new ≡ f.entry) → AreLookups l
    → AreLookups (record l { searches = set l.searches i new })
set_lawful {E} l p i f (Ok n) new reply is kept h =
    let fine : Result ℕ E = Ok n in
    subst AreLookups (sym (heard_as l p i f fine new reply is)) (heard_lawful l p h)
set_lawful {E} l p i f (Err e) new reply is kept h =
    let none : Content = record p { tuples = [] } in
    let fine : Result ℕ E = Ok 0 in
    subst AreLookups (sym (heard_as l none i f fine new reply kept)) (heard_lawful l none h)
