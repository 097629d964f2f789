-- A zone request that is new, and its record that is taken away again.
use Rattle.std.proofs.Common.{◌≡◌, ℕ, Bool, true, false, cond, List, [], ◌∷◌, ◌++◌, Option, Some, None, refl, sym, ap}
use Rattle.std.proofs.Common.{◌∙◌}
use Rattle.std.specs.Prelude.{find}
use Rattle.std.proofs.lemmas.Bool.{eq-eqb}
use Rattle.at_ddp.proofs.Octets.{same_address_itself}
use Rattle.at_ddp.specs.declared.address.Address.{Address}
use Rattle.at_atp_frame.specs.Frames.{Content, Request, Response, Release}
use Rattle.at_ddp.specs.Tables.{without_first}
use Rattle.at_ddp.proofs.Alls.{find_last}
use Rattle.at_atp_responder.specs.Records.{Record, State, Waiting, Answered, Released, Received, is_key, repeated}
use Rattle.at_atp_responder.specs.Records.{came_again, request_came, passed, is_passed_over, released, release_came}
use Rattle.at_atp_responder.specs.Records.{received, record_fault}
use Rattle.at_atp_responder.specs.declared.reception.Key.{Key}
use Rattle.at_atp_responder.specs.declared.reception.Reception.TheVariants.{New}
use Rattle.at_ddp.proofs.TableLemmas.{without_last}

-- a new request has a record at the end, and had none
pub record IsNew (rs : List Record) (t : Received) (key : Key) : Type 0 where
  pub xo : Bool
  pub mask : ℕ
  pub none : find (is_key key) rs ≡ None
  pub added : t.after ≡ rs ++ record { key = key; state = Waiting xo mask } ∷ []
  pub nothing : t.sent ≡ []

same_new : (k key : Key) → New k ≡ New key → k ≡ key
same_new k key h = cc

new_of : (rs : List Record) (k : Key) (xo : Bool) (mask : ℕ) (o : Option Record) (key : Key) → find (is_key k) rs ≡ o
    → (request_came rs k xo mask o).reception ≡ New key → IsNew rs (request_came rs k xo mask o) key
new_of rs k xo mask None key is h =
    let same = same_new k key h in
    record {
      xo = xo;
      mask = mask;
      none = ap (λ x. find (is_key x) rs) (sym same) ∙ is;
      added = ap (λ x. rs ++ record { key = x; state = Waiting xo mask } ∷ []) same;
      nothing = refl;
    }
new_of rs k xo mask (Some r) key is h = go r.state h
  where
    go : (s : State) → (came_again rs k r (repeated k mask s)).reception ≡ New key
        → IsNew rs (came_again rs k r (repeated k mask s)) key
    go (Waiting once old) g = absurd (cc)
    go (Answered packets) g = absurd (cc)
    go Released g = absurd (cc)

pub is_new : (rs : List Record) (from : Address) (f : Content) (key : Key) → (received rs from f).reception ≡ New key
    → IsNew rs (received rs from f) key
is_new rs from (Response place eom sts tid user bytes) key h = absurd (cc)
is_new rs from (Release tid) key h = released_new (find (is_key (record { from = from; tid = tid })) rs) h
  where
    k : Key
    k = record { from = from; tid = tid }

    of_state : (r : Record) (s : State) → (came_again rs k r (released s)).reception ≡ New key
        → IsNew rs (came_again rs k r (released s)) key
    of_state r (Waiting once old) g = absurd (cc)
    of_state r (Answered packets) g = absurd (cc)
    of_state r Released g = absurd (cc)

    released_new : (o : Option Record) → (release_came rs k o).reception ≡ New key → IsNew rs (release_came rs k o) key
    released_new None g = absurd (cc)
    released_new (Some r) g = of_state r r.state g
is_new rs from (Request mask xo timer tid user bytes) key h = go (is_passed_over mask) h
  where
    k : Key
    k = record { from = from; tid = tid }

    go : (b : Bool) → (cond b (passed rs) (request_came rs k xo mask (find (is_key k) rs))).reception ≡ New key
        → IsNew rs (cond b (passed rs) (request_came rs k xo mask (find (is_key k) rs))) key
    go true g = absurd (cc)
    go false g = new_of rs k xo mask (find (is_key k) rs) key refl g

own : (key : Key) (xo : Bool) (mask : ℕ) → is_key key (record { key = key; state = Waiting xo mask }) ≡ true
own key xo mask = rw (same_address_itself key.from, eq-eqb key.tid key.tid refl) refl

-- its record waits, and taking it away leaves the records as they were
pub waits : (rs : List Record) (t : Received) (key : Key) → IsNew rs t key → record_fault (find (is_key key) t.after)
    ≡ None
waits rs t key n = ap (λ l. record_fault (find (is_key key) l)) n.added
    ∙ ap record_fault (find_last (is_key key) rs (record { key = key; state = Waiting n.xo n.mask }) n.none
    (own key n.xo n.mask))

pub undone : (rs : List Record) (t : Received) (key : Key) → IsNew rs t key → without_first (is_key key) t.after ≡ rs
undone rs t key n = ap (without_first (is_key key)) n.added
    ∙ without_last (is_key key) rs (record { key = key; state = Waiting n.xo n.mask }) n.none (own key n.xo n.mask)
