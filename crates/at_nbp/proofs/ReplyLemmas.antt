-- Which tuples go into a reply, the names that match, and the replies one after the other.
use Rattle.std.proofs.Common.{◌≡◌, ◌⊎◌, inl, inr, ℕ, zero, suc, ◌+◌, ◌-◌, ◌*◌, ◌<◌, ◌≤◌, Bool, true, false, List, []}
use Rattle.std.proofs.Common.{◌∷◌, ◌++◌, length, get_or, take, drop, map, refl, sym, ap, subst, ◌∙◌, append_assoc}
use Rattle.std.proofs.Common.{append-nil, arith}
use Rattle.std.specs.Prelude.{All}
use Rattle.std.specs.List.{drop-map, filter, flat_map, take-map}
use Rattle.std.proofs.Math.Seq.{drop-nil}
use Rattle.std.proofs.lemmas.List.{drop_all, length-append, length-map, length-take-le, map-append, take_more}
use Rattle.std.proofs.lemmas.List.{take_rest}
use Rattle.std.proofs.lemmas.List.Elements.{All-drop, All-push, All-take, filter-append}
use Rattle.at_ddp.specs.Outbox.{Outbox}
use Rattle.at_ddp.specs.Sending.{Sends, HasRoomFor}
use Rattle.at_ddp.specs.declared.address.Address.{Address}
use Rattle.at_nbp.specs.NameTables.{Table}
use Rattle.at_nbp.specs.Names.{is_match}
use Rattle.at_nbp.specs.Packets.{spelling}
use Rattle.at_nbp.specs.Replies.{Answers, AreReplies, IsFull, entry_in, name_in, sent_reply, size_of}
use Rattle.at_nbp.specs.Tuples.{Entry, FitsStrings, content, tuple_spelling}
use Rattle.at_nbp.specs.declared.function.Function.TheVariants.{Reply}
use Rattle.at_nbp.specs.declared.name.Name.{Name}
use Rattle.at_nbp.specs.declared.names.Registered.{Registered}
use Rattle.at_nbp.specs.declared.tuple.Tuple.{Tuple}
use Rattle.at_nbp.proofs.PacketLemmas.{length_spelling}
use Rattle.at_nbp.proofs.ListLemmas.{spelled, spelled_more, short_tuple}
use Rattle.at_ddp.proofs.OutboxLemmas.{sends_both}

-- the first tuples fit a reply, whose bytes are counted
pub record InReply (tuples : List Tuple) (i len : ℕ) : Type 0 where
  pub few : i ≤ 15
  pub size : len ≡ 2 + length (spelled (take i tuples))
  pub small : len ≤ 2 + 104 * i
  pub fits : len ≤ 586

more_len : (tuples : List Tuple) (i len size : ℕ) (d t : Tuple) → InReply tuples i len → i < length tuples → t
    ≡ get_or tuples i d → size ≡ length (tuple_spelling (content t)) →
    len + size ≡ 2 + length (spelled (take (i + 1) tuples))
more_len tuples i len size d t r lt at is =
    omega (
      arith,
      r.size,
      is,
      ap (length {A = ℕ}) (spelled_more tuples i d t lt at),
      length-append
          (spelled (take i tuples)) (tuple_spelling (content t)),
    )

pub reply_more : (tuples : List Tuple) (i len size : ℕ) (d t : Tuple) → InReply tuples i len → i < length tuples → t
    ≡ get_or tuples i d → FitsStrings (content t) →
    size ≡ length (tuple_spelling (content t)) → i < 15 → len + size ≤ 586 → InReply tuples (i + 1) (len + size)
reply_more tuples i len size d t r lt at short is few fits = record {
  few = omega (arith, few);
  size = more_len tuples i len size d t r lt at is;
  small = omega (arith, r.small, short_tuple (content t) short, is);
  fits = fits;
}

-- the size of the first tuples, wherever their strings lie
size_at : (tuples : List Tuple) (i : ℕ) → size_of (take i (map content tuples)) ≡ 2 + length (spelled (take i tuples))
size_at tuples i = ap (λ (l : List Entry). 2 + length (flat_map tuple_spelling l)) (take-map content i tuples)

-- no more fit
pub full_at : (tuples : List Tuple) (i len size : ℕ) (d t : Tuple) → InReply tuples i len → i < length tuples → t
    ≡ get_or tuples i d → FitsStrings (content t) →
    size ≡ length (tuple_spelling (content t)) → (i ≡ 15) ⊎ (586 < len + size) → IsFull (map content tuples) i
full_at tuples i len size d t r lt at short is over = record {
  some = elim over [
    | inl most ↦ omega (arith, most)
    | inr long ↦ omega
        (arith, long, r.small, short_tuple (content t) short, is)
  ];
  few = r.few;
  within = omega (arith, lt, length-map tuples content);
  fits = omega (arith, size_at tuples i, r.size, r.fits);
  full = elim over [
    | inl most ↦ inr (inl most)
    | inr long ↦ inr
        (inr (omega (arith, long, size_at tuples (i + 1), more_len tuples i len size d t r lt at is)))
  ];
}

-- ---- the names that match

-- the tuples of those among the first names that match
pub record AreMatching (table : Table) (pattern : Name) (i : ℕ) (items : List Tuple) (capacity : ℕ) : Type 0 where
  pub are : map content items
      ≡ map (entry_in table) (filter (λ r. is_match pattern (name_in table r)) (take i table.names))
  pub short : All FitsStrings (map content items)
  pub few : length items ≤ i
  pub room : length table.names ≤ capacity

filter_next : (p : Registered → Bool) (names : List Registered) (i : ℕ) (d : Registered) → i < length names
    → filter p (take (i + 1) names) ≡ filter p (take i names) ++ filter p (get_or names i d ∷ [])
filter_next p names i d lt = ap (filter p) (take_more names i d lt)
    ∙ filter-append p (take i names) (get_or names i d ∷ [])

pub matching_more : (table : Table) (pattern : Name) (i : ℕ) (items items' : List Tuple) (capacity capacity' : ℕ)
    (d : Registered) (t : Tuple) → AreMatching table pattern i items capacity →
    i < length table.names → is_match pattern (name_in table (get_or table.names i d)) ≡ true → content t
    ≡ entry_in table (get_or table.names i d) → FitsStrings (content t) →
    items' ≡ items ++ t ∷ [] → capacity ≤ capacity' → AreMatching table pattern (i + 1) items' capacity'
matching_more table pattern i items items' capacity capacity' d t m lt hit is short pushed wider =
    let p : Registered → Bool = λ r. is_match pattern (name_in table r) in
    let one : filter p (get_or table.names i d ∷ []) ≡ get_or table.names i d ∷ [] = rw hit refl in
    let next : filter p (take (i + 1) table.names) ≡ filter p (take i table.names) ++ get_or table.names i d ∷ [] =
    filter_next p table.names i d lt ∙ ap (λ l. filter p (take i table.names) ++ l) one in
    let entries : map content items' ≡ map content items ++ content t ∷ [] = ap (map content) pushed
    ∙ map-append content items (t ∷ []) in
    record {
      are = entries ∙ (λ k. m.are k ++ is k ∷ [])
          ∙ sym (ap (map (entry_in table)) next
          ∙ map-append (entry_in table) (filter p (take i table.names)) (get_or table.names i d ∷ []));
      short = subst (All FitsStrings) (sym entries)
          (All-push FitsStrings (map content items) (content t) m.short short);
      few = omega (arith, m.few, ap (length {A = Tuple}) pushed, length-append items (t ∷ []));
      room = omega (arith, m.room, wider);
    }

pub matching_same : (table : Table) (pattern : Name) (i : ℕ) (items : List Tuple) (capacity : ℕ) (d : Registered)
    → AreMatching table pattern i items capacity → i < length table.names →
    is_match pattern (name_in table (get_or table.names i d)) ≡ false → AreMatching table pattern (i + 1) items capacity
matching_same table pattern i items capacity d m lt misses =
    let p : Registered → Bool = λ r. is_match pattern (name_in table r) in
    let none : filter p (get_or table.names i d ∷ []) ≡ [] = rw misses refl in
    let next : filter p (take (i + 1) table.names) ≡ filter p (take i table.names) = filter_next p table.names i d lt
    ∙ ap (λ l. filter p (take i table.names) ++ l) none ∙ append-nil (filter p (take i table.names)) in
    record {
      are = m.are ∙ ap (map (entry_in table)) (sym next);
      short = m.short;
      few = omega (arith, m.few);
      room = m.room;
    }

-- ---- replies one after the other

drop_sum : {X : Type 0} (n m : ℕ) (xs : List X) → drop m (drop n xs) ≡ drop (n + m) xs
drop_sum zero m xs = let none : m ≡ zero + m = omega arith in ap (λ k. drop k xs) none
drop_sum {X} (suc n) m [] = drop-nil m ∙ sym (drop-nil (suc n + m))
drop_sum {X} (suc n) m (x ∷ xs) = let next : suc (n + m) ≡ suc n + m = omega arith in drop_sum n m xs
    ∙ ap (λ k. drop k (x ∷ xs)) next

-- the first tuples were sent, and there is room for the replies with the others
pub record AreSent (entries : List Entry) (id : ℕ) (to : Address) (sent : ℕ) (old new : Outbox) : Type 0 where
  pub replies : List (List Entry)
  pub full : (later : List (List Entry)) → AreReplies (drop sent entries) later → AreReplies entries (replies ++ later)
  pub sends : Sends old new (map (sent_reply id to) replies)
  pub left : ℕ
  pub room : HasRoomFor new left 586
  pub enough : length entries ≤ sent + left

pub none_sent : (entries : List Entry) (id : ℕ) (to : Address) (old new : Outbox) (left : ℕ) → Sends old new []
    → HasRoomFor new left 586 → length entries ≤ left → AreSent entries id to 0 old new
none_sent entries id to old new left nothing room enough =
    record {
      replies = [];
      full = λ later h. h;
      sends = nothing;
      left = left;
      room = room;
      enough = omega (arith, enough);
    }

-- there is room for one more reply
pub one_left : (entries : List Entry) (id : ℕ) (to : Address) (sent : ℕ) (old new : Outbox)
    (s : AreSent entries id to sent old new) → sent < length entries → HasRoomFor new (s.left - 1 + 1) 586
one_left entries id to sent old new s lt = let some : s.left ≡ s.left - 1 + 1 = omega (arith, s.enough, lt) in
    subst (λ n. HasRoomFor new n 586) some s.room

pub sent_more : (entries : List Entry) (id : ℕ) (to : Address) (sent count : ℕ) (old new after : Outbox)
    (s : AreSent entries id to sent old new) → sent < length entries → IsFull (drop sent entries) count →
    Sends new after (sent_reply id to (take count (drop sent entries)) ∷ []) → HasRoomFor after (s.left - 1) 586
    → AreSent entries id to (sent + count) old after
sent_more entries id to sent count old new after s lt full pushed room =
    let reply : List Entry = take count (drop sent entries) in
    let size : length reply ≡ count = length-take-le count (drop sent entries) full.within in
    record {
      replies = s.replies ++ reply ∷ [];
      full = λ later h.
          subst (AreReplies entries) (sym (append_assoc s.replies (reply ∷ []) later))
          (s.full (reply ∷ later) (
            subst (IsFull (drop sent entries)) (sym size) full,
            ap (λ n. take n (drop sent entries)) (sym size),
            subst (λ (l : List Entry). AreReplies l later)
                (sym (ap (λ n. drop n (drop sent entries)) size ∙ drop_sum sent count entries)) h,
          ));
      sends = subst (Sends old after) (sym (map-append (sent_reply id to) s.replies (reply ∷ [])))
          (sends_both old new after (map (sent_reply id to) s.replies) (sent_reply id to reply ∷ []) s.sends pushed);
      left = s.left - 1;
      room = room;
      enough = omega (arith, s.enough, lt, full.some);
    }

pub all_sent : (entries : List Entry) (id : ℕ) (to : Address) (sent : ℕ) (old new : Outbox)
    → AreSent entries id to sent old new → length entries ≤ sent → Answers entries id to old new
all_sent entries id to sent old new s all = record {
  replies = s.replies;
  full = subst (AreReplies entries) (append-nil s.replies) (s.full [] (drop_all sent entries all));
  sends = s.sends;
}

-- ---- tuples from a place on

pub rest_is : (tuples : List Tuple) (sent : ℕ) → map content (take (length tuples - sent) (drop sent tuples))
    ≡ drop sent (map content tuples)
rest_is tuples sent = ap (map content) (take_rest tuples sent) ∙ sym (drop-map content sent tuples)

pub reply_is : (tuples : List Tuple) (sent count : ℕ) → map content (take (sent + count - sent) (drop sent tuples))
    ≡ take count (drop sent (map content tuples))
reply_is tuples sent count =
    let size : sent + count - sent ≡ count = omega arith in
    ap (λ n. map content (take n (drop sent tuples))) size ∙ sym (take-map content count (drop sent tuples))
    ∙ ap (take count) (sym (drop-map content sent tuples))

pub rest_fits : (tuples : List Tuple) (sent : ℕ) → All FitsStrings (map content tuples)
    → All FitsStrings (map content (take (length tuples - sent) (drop sent tuples)))
rest_fits tuples sent short = subst (All FitsStrings) (sym (rest_is tuples sent))
    (All-drop FitsStrings sent (map content tuples) short)

pub reply_fits : (tuples : List Tuple) (sent count : ℕ) → All FitsStrings (map content tuples)
    → All FitsStrings (map content (take (sent + count - sent) (drop sent tuples)))
reply_fits tuples sent count short =
    subst (All FitsStrings) (sym (reply_is tuples sent count))
    (All-take FitsStrings count (drop sent (map content tuples))
    (All-drop FitsStrings sent (map content tuples) short))

pub reply_size : (tuples : List Tuple) (sent count id : ℕ) → IsFull (drop sent (map content tuples)) count →
    length (spelling (record {
      function = Reply;
      id = id;
      tuples = map content (take (sent + count - sent) (drop sent tuples));
    })) ≤ 586
reply_size tuples sent count id full =
    omega (
      arith,
      full.fits,
      length_spelling (record {
        function = Reply;
        id = id;
        tuples = map content (take (sent + count - sent) (drop sent tuples));
      }),
      ap (λ (l : List Entry). size_of l) (reply_is tuples sent count),
    )
