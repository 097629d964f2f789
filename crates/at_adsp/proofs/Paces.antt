-- How far an end goes on, and how far its segments and its peer let it go.
use Rattle.std.proofs.Common.{◌≡◌, ℕ, zero, suc, ◌+◌, ◌-◌, ◌≤◌, Bool, true, false, cond, List, [], ◌∷◌, ◌++◌, length}
use Rattle.std.proofs.Common.{take, Option, Some, None, refl, sym, ap, subst, ◌∙◌, arith}
use Rattle.std.specs.Prelude.{IfSome, max, nat_le}
use Rattle.std.specs.List.{AllByRecursion}
use Rattle.at_ddp.proofs.Alls.{all_both, all_implied}
use Rattle.at_adsp_frame.specs.Segments.{Content, Part, Probe}
use Rattle.at_adsp_end.specs.Cuts.{Piece, items_of, numbered, pieces}
use Rattle.at_adsp_end.specs.Ends.{EndState, Sender, control, free}
use Rattle.at_adsp_end.specs.Hearing.{if_asked}
use Rattle.at_adsp_end.specs.Positions.{whole}
use Rattle.at_adsp_end.specs.Sending.{acknowledged, acks, at_most, going, hearing, repeated, sending}
use Rattle.at_adsp_end.specs.declared.item.Item.{Item}
use Rattle.at_adsp.proofs.Carries.{acks_within}
use Rattle.at_adsp.proofs.EndMoves.{IsPlainPart}
use Rattle.at_adsp.proofs.Fews.{count_of, length_drop}
use Rattle.at_adsp.proofs.Hears.{ahead_far}
use Rattle.at_adsp.proofs.Logs.{length_both}
use Rattle.at_adsp.proofs.Slices.{all_items, pieces_whole}
use Rattle.at_adsp.proofs.Unreads.{Unread}

-- how many items an end gave numbers to, and how many it received or passed
pub record Marks : Type 0 where
  pub gave : ℕ
  pub took : ℕ

abbrev pub marks_of : EndState → Marks
marks_of e = record { gave = e.sender.front + length e.sender.unacknowledged; took = e.receiver.received }

pub record Rises (a b : Marks) : Type 0 where
  pub gave : a.gave ≤ b.gave
  pub took : a.took ≤ b.took

pub rises_itself : (a : Marks) → Rises a a
rises_itself a = record { gave = omega arith; took = omega arith }

pub rises_on : (a b c : Marks) → Rises a b → Rises b c → Rises a c
rises_on a b c h k = let x = h.gave in let y = k.gave in let v = h.took in let w = k.took in
    record { gave = omega (arith, x, y); took = omega (arith, v, w) }

-- a segment of the end with this identifier, which has come so far
pub record TellsOf (room id : ℕ) (m : Marks) (s : Content) : Type 0 where
  pub source : s.source ≡ id
  pub first : s.first + count_of s.body ≤ m.gave
  pub next : s.next ≤ m.took
  pub window : s.window ≤ room

-- No more is under way than a window lets, if the end is here: for one of our addresses. No more is unread than came.
pub record Keeps (room : ℕ) (here : Bool) (e : EndState) : Type 0 where
  pub queue : here ≡ true → length e.sender.unacknowledged + e.sender.credit ≤ room
  pub space : e.receive_room ≤ room
  pub unread : Unread e

-- a segment that opens nothing tells no less than its end had reached
pub record IsFrom (e : EndState) (s : Content) : Type 0 where
  pub first : e.sender.front ≤ s.first
  pub next : e.receiver.received ≤ s.next

abbrev pub TellsFrom : EndState → Content → Type 0
TellsFrom e s = IsPlainPart s.body → IsFrom e s

pub from_on : (e f : EndState) (out : List Content) → e.sender.front ≤ f.sender.front
    → e.receiver.received ≤ f.receiver.received → AllByRecursion (TellsFrom f) out → AllByRecursion (TellsFrom e) out
from_on e f out front took all = all_implied (TellsFrom f) (TellsFrom e) out
    (λ s t plain.
    let u = t plain in
    let first = u.first in
    let next = u.next in
    record { first = omega (arith, front, first); next = omega (arith, took, next) }) all

-- an end received no more than its peer gave, and may send as much as the peer took, and a window
pub record Follows (room : ℕ) (m : Marks) (e : EndState) : Type 0 where
  pub received : e.receiver.received ≤ m.gave
  pub limit : e.sender.front + length e.sender.unacknowledged + e.sender.credit ≤ m.took + room

pub follows_on : (room : ℕ) (a b : Marks) (e : EndState) → Rises a b → Follows room a e → Follows room b e
follows_on room a b e r h = let g = r.gave in let t = r.took in let x = h.received in let y = h.limit in
    record { received = omega (arith, g, x); limit = omega (arith, t, y) }

pub tells_on : (room id : ℕ) (a b : Marks) (s : Content) → Rises a b → TellsOf room id a s → TellsOf room id b s
tells_on room id a b s r h = let g = r.gave in let t = r.took in let x = h.first in let y = h.next in
    record { source = h.source; first = omega (arith, g, x); next = omega (arith, t, y); window = h.window }

-- an end goes on as this one, and sends this
pub record Paces (room : ℕ) (here : Bool) (e f : EndState) (out : List Content) : Type 0 where
  pub id : f.id ≡ e.id
  pub rises : Rises (marks_of e) (marks_of f)
  pub front : e.sender.front ≤ f.sender.front
  pub keeps : Keeps room here f
  pub tells : AllByRecursion (TellsOf room f.id (marks_of f)) out
  pub from : AllByRecursion (TellsFrom e) out

pub take_few : {X : Type 0} (k : ℕ) (xs : List X) → length (take k xs) ≤ k
take_few zero xs = omega arith
take_few (suc k) [] = omega arith
take_few (suc k) (x ∷ xs) = let rest = take_few k xs in omega (arith, rest)

pub length_going : (s : Sender) → length (going s) ≤ s.credit
length_going s = go s.resetting
  where
    go : (b : Bool) → length (cond b [] (take s.credit s.waiting)) ≤ s.credit
    go true = omega arith
    go false = take_few s.credit s.waiting

max_below : (a b c : ℕ) → a ≤ c → b ≤ c → max a b ≤ c
max_below a b c x y = omega (arith, x, y)

module _ (room : ℕ) (here : Bool) where
  -- the end goes on twice
  pub then_paces : (e f g : EndState) (out more : List Content) → Paces room here e f out
      → (Keeps room here f → Paces room here f g more) → Paces room here e g (out ++ more)
  then_paces e f g out more h on =
      let k = on h.keeps in
      let r = h.rises in
      let a = h.front in
      let b = k.front in
      record {
        id = k.id ∙ h.id;
        rises = rises_on (marks_of e) (marks_of f) (marks_of g) h.rises k.rises;
        front = omega (arith, a, b);
        keeps = k.keeps;
        from = all_both (TellsFrom e) out more h.from (from_on e f more h.front r.took k.from);
        tells =
            all_both (TellsOf room g.id (marks_of g)) out more
            (all_implied (TellsOf room f.id (marks_of f)) (TellsOf room g.id (marks_of g)) out
            (λ s t. subst (λ i. TellsOf room i (marks_of g) s) (sym k.id)
            (tells_on room f.id (marks_of f) (marks_of g) s k.rises t)) h.tells) k.tells;
      }

  -- the same numbers, and what is sent with them
  pub so_paces : (e f : EndState) (out : List Content) → f.id ≡ e.id → f.sender ≡ e.sender
      → f.receiver.received ≡ e.receiver.received → Keeps room here f
      → AllByRecursion (TellsOf room f.id (marks_of f)) out → AllByRecursion (TellsFrom e) out → Paces room here e f out
  so_paces e f out id sender took keeps all from =
      let gave = ap (λ (x : Sender). x.front + length x.unacknowledged) sender in
      let front = ap (λ (x : Sender). x.front) sender in
      record {
        id = id;
        rises = record { gave = omega (arith, gave); took = omega (arith, took) };
        front = omega (arith, front);
        keeps = keeps;
        tells = all;
        from = from;
      }

  -- ---- what is sent

  pub free_fits : (e : EndState) → Keeps room here e → free e ≤ room
  free_fits e k = let s = k.space in omega (arith, s)

  pub control_tells : (e : EndState) (ack : Bool) (body : Part) → count_of body ≡ 0 → Keeps room here e
      → TellsOf room e.id (marks_of e) (control whole e ack body)
  control_tells e ack body none k =
      record { source = refl; first = omega (arith, none); next = omega arith; window = free_fits e k }

  pub control_from : (e : EndState) (ack : Bool) (body : Part) → TellsFrom e (control whole e ack body)
  control_from e ack body plain = record { first = omega arith; next = omega arith }

  numbered_from : (e : EndState) (first : ℕ) (ps : List Piece) → e.sender.front ≤ first
      → AllByRecursion (TellsFrom e) (numbered whole e first ps)
  numbered_from e first [] le = tt
  numbered_from e first (p ∷ ps) le = (
    (λ plain. record { first = le; next = omega arith }),
    numbered_from e (first + length (items_of p)) ps (omega (arith, le)),
  )

  numbered_tells : (e : EndState) (m : Marks) (first : ℕ) (ps : List Piece) → Keeps room here e
      → e.receiver.received ≤ m.took → first + length (all_items ps) ≤ m.gave
      → AllByRecursion (TellsOf room e.id m) (numbered whole e first ps)
  numbered_tells e m first [] k took le = tt
  numbered_tells e m first (p ∷ ps) k took le =
      let both = length_both (items_of p) (all_items ps) in (
        record { source = refl; first = omega (arith, le, both); next = took; window = free_fits e k },
        numbered_tells e
            m (first + length (items_of p)) ps k took (omega (arith, le, both)),
      )

  cut_tells : (e : EndState) (m : Marks) (first : ℕ) (xs : List Item) → Keeps room here e
      → e.receiver.received ≤ m.took → first + length xs ≤ m.gave
      → AllByRecursion (TellsOf room e.id m) (numbered whole e first (pieces [] xs))
  cut_tells e m first xs k took le =
      numbered_tells e m first (pieces [] xs) k took
      (let same = ap length (pieces_whole [] xs) in omega (arith, le, same))

  pub sending_paces : (e : EndState) → Keeps room here e
      → Paces room here e (sending whole e).after (sending whole e).sent
  sending_paces e k =
      let both = length_both e.sender.unacknowledged (going e.sender) in
      let few = length_going e.sender in
      record {
        id = refl;
        rises = record { gave = omega (arith, both); took = omega arith };
        front = omega arith;
        keeps = record {
          queue = λ is. let q = k.queue is in omega (arith, q, both, few);
          space = k.space;
          unread = k.unread;
        };
        from = numbered_from e (e.sender.front + length e.sender.unacknowledged) (pieces [] (going e.sender))
            (omega arith);
        tells = cut_tells e (marks_of (sending whole e).after) (e.sender.front + length e.sender.unacknowledged)
            (going e.sender) k (omega arith) (omega (arith, both));
      }

  pub repeated_tells : (e : EndState) → Keeps room here e
      → AllByRecursion (TellsOf room e.id (marks_of e)) (repeated whole e)
  repeated_tells e k = cut_tells e (marks_of e) e.sender.front e.sender.unacknowledged k (omega arith) (omega arith)

  pub repeated_from : (e : EndState) → AllByRecursion (TellsFrom e) (repeated whole e)
  repeated_from e = numbered_from e e.sender.front (pieces [] e.sender.unacknowledged) (omega arith)

  pub asked_from : (b : Bool) (e : EndState) → AllByRecursion (TellsFrom e) (if_asked whole b e)
  asked_from true e = (control_from e false Probe, tt)
  asked_from false e = tt

  pub asked_tells : (b : Bool) (e : EndState) → Keeps room here e
      → AllByRecursion (TellsOf room e.id (marks_of e)) (if_asked whole b e)
  asked_tells true e k = (control_tells e false Probe refl k, tt)
  asked_tells false e k = tt

  -- ---- acknowledgements

  -- an end of which so many items are acknowledged
  pub acked_keeps : (e : EndState) (window j : ℕ) → (here ≡ true → window ≤ room)
      → j ≤ length e.sender.unacknowledged → Keeps room here e →
      Keeps room here (record e { sender = acknowledged whole j window e.sender; ticks = 0 })
  acked_keeps e window j fits le k = record {
    queue = λ is.
        let q = k.queue is in
        let few = fits is in
        let d = length_drop j e.sender.unacknowledged in
        let most = max_below e.sender.credit (window - (length e.sender.unacknowledged - j))
        (room - (length e.sender.unacknowledged - j)) (omega (arith, q)) (omega (arith, few)) in
        omega (arith, most, d, q);
    space = k.space;
    unread = k.unread;
  }

  pub hearing_paces : (e : EndState) (window : ℕ) (acks : Option ℕ) → (here ≡ true → window ≤ room)
      → IfSome acks (λ k. k ≤ length e.sender.unacknowledged) → Keeps room here e →
      Paces room here e (hearing whole e window acks).after (hearing whole e window acks).sent
  hearing_paces e window None fits le k =
      so_paces e (record e { ticks = 0 }) [] refl refl refl
      (record { queue = k.queue; space = k.space; unread = k.unread }) tt tt
  hearing_paces e window (Some j) fits le k =
      let d = length_drop j e.sender.unacknowledged in
      let f : EndState = record e { sender = acknowledged whole j window e.sender; ticks = 0 } in
      let s = sending_paces f (acked_keeps e window j fits le k) in
      record {
        id = refl;
        rises =
            rises_on (marks_of e) (marks_of f) (marks_of (sending whole f).after)
            (record { gave = omega (arith, d, le); took = omega arith }) s.rises;
        front = omega arith;
        keeps = s.keeps;
        tells = s.tells;
        from = from_on e f (sending whole f).sent (omega arith) (omega arith) s.from;
      }

module _ (room : ℕ) where
  pub sending_limit : (e : EndState) (m : Marks) → Follows room m e → Follows room m (sending whole e).after
  sending_limit e m h =
      let l = h.limit in
      let both = length_both e.sender.unacknowledged (going e.sender) in
      let few = length_going e.sender in
      record { received = h.received; limit = omega (arith, l, both, few) }

  at_most_is : (n : ℕ) (o : Option ℕ) (j : ℕ) → at_most n o ≡ Some j → o ≡ Some j
  at_most_is n None j is = absurd (cc)
  at_most_is n (Some k) j is = go (nat_le k n) is
    where
      go : (b : Bool) → cond b (Some k) None ≡ Some j → Some k ≡ Some j
      go true h = h
      go false h = absurd (cc)

  hearing_limit : (e : EndState) (m : Marks) (window next : ℕ) (o : Option ℕ) → acks whole e.sender next ≡ o
      → IfSome o (λ k. k ≤ length e.sender.unacknowledged) → window ≤ room → next ≤ m.took → Follows room m e →
      Follows room m (hearing whole e window o).after
  hearing_limit e m window next None is le fits took h = record { received = h.received; limit = h.limit }
  hearing_limit e m window next (Some j) is le fits took h =
      let l = h.limit in
      let d = length_drop j e.sender.unacknowledged in
      let far = ahead_far e.sender.front next j
      (at_most_is (length e.sender.unacknowledged) (whole.ahead e.sender.front next) j is) in
      let most = max_below e.sender.credit (window - (length e.sender.unacknowledged - j))
      (m.took + room - (e.sender.front + length e.sender.unacknowledged)) (omega (arith, l))
      (omega (arith, far, fits, took, l, le)) in
      sending_limit (record e { sender = acknowledged whole j window e.sender; ticks = 0 }) m
      (record { received = h.received; limit = omega (arith, most, d, le, l) })

  -- what comes from the peer
  pub hearing_follows : (e : EndState) (m : Marks) (id : ℕ) (s : Content) → TellsOf room id m s → Follows room m e
      → Follows room m (hearing whole e s.window (acks whole e.sender s.next)).after
  hearing_follows e m id s t h = hearing_limit e m s.window s.next (acks whole e.sender s.next) refl
      (acks_within e.sender s.next) t.window t.next h
