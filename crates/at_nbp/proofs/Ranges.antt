-- What is in range, packet by packet and happening by happening.
use Rattle.std.proofs.Common.{◌≡◌, ℕ, zero, suc, ◌<◌, Bool, true, false, cond, List, [], ◌∷◌, length, drop, map, refl}
use Rattle.std.proofs.Common.{sym, ap, subst, ◌≤◌, ◌∙◌, arith}
use Rattle.std.specs.Prelude.{All}
use Rattle.std.specs.List.{AllByRecursion, filter}
use Rattle.std.proofs.lemmas.List.{length-map}
use Rattle.std.proofs.lemmas.List.Elements.{All-drop, All-take}
use Rattle.at_ddp.specs.Datagram.{IsAddress}
use Rattle.at_nbp.specs.Lawfully.{IsName, IsNamed}
use Rattle.at_nbp.specs.Lookups as lookups
use Rattle.at_nbp.specs.Lookups.{Lookups, Search, asking}
use Rattle.at_nbp.specs.Lookups.{question}
use Rattle.at_nbp.specs.NameTables.{Table}
use Rattle.at_nbp.specs.Names.{is_any_zone}
use Rattle.at_nbp.specs.Network.{asks}
use Rattle.at_nbp.specs.Packets.{Content, HasCount, IsLawful, spelling}
use Rattle.at_nbp.specs.Relays.{asks_router, in_zone, relayed}
use Rattle.at_nbp.specs.Replies.{AreReplies, IsFull, entry_in, size_of}
use Rattle.at_nbp.specs.Tuples.{Entry, IsString, IsTuple}
use Rattle.at_nbp.specs.declared.function.Function.{Function}
use Rattle.at_nbp.specs.declared.function.Function.TheVariants.{BroadcastRequest, LookUp, Reply, ForwardRequest}
use Rattle.at_nbp.specs.declared.name.Name.{Name}
use Rattle.at_nbp.specs.declared.names.Registered.{Registered}
use Rattle.at_nbp.proofs.AskingLemmas.{one_counts, one_len}
use Rattle.at_nbp.proofs.PacketLemmas.{length_spelling}
use Rattle.at_nbp.proofs.UnreadLemmas.{fits_strings}

-- ---- strings and tuples

star_fits : IsString (0x2A ∷ [])
star_fits = record { fits = omega arith; bytes = all_one }
  where
    all_one : All (λ b. b < 256) (0x2A ∷ [])
    all_one zero d lt = omega arith
    all_one (suc k) d lt = absurd (omega (arith, lt))

zone_fits : (b : Bool) (x y : List ℕ) → IsString x → IsString y → IsString (cond b x y)
zone_fits true x y a b = a
zone_fits false x y a b = b

three_fit : (a b c : List ℕ) → IsString a → IsString b → IsString c → All IsString (a ∷ b ∷ c ∷ [])
three_fit a b c p q r zero d lt = p
three_fit a b c p q r (suc zero) d lt = q
three_fit a b c p q r (suc (suc zero)) d lt = r
three_fit a b c p q r (suc (suc (suc k))) d lt = absurd (omega (arith, lt))

one_tuple : (t : Entry) → IsTuple t → All IsTuple (t ∷ [])
one_tuple t is zero d lt = is
one_tuple t is (suc k) d lt = absurd (omega (arith, lt))

pub first_tuple : (t : Entry) (ts : List Entry) → All IsTuple (t ∷ ts) → IsTuple t
first_tuple t ts each = each 0 t (omega arith)

-- ---- packets in the data of one datagram

-- a packet that can be spelled, and has room there
abbrev pub IsSpelled : Content → Type 0
IsSpelled p = IsLawful p × (length (spelling p) ≤ 586)

-- one tuple has room
one_small : (f : Function) (id : ℕ) (tuples : List Entry) → length tuples ≡ 1 → All IsTuple tuples
    → length (spelling (record { function = f; id = id; tuples = tuples })) ≤ 586
one_small f id [] one each = absurd (omega (arith, one))
one_small f id (t ∷ u ∷ ts) one each = absurd (omega (arith, one))
one_small f id (t ∷ []) one each = omega (arith, one_len f id t (fits_strings t (first_tuple t [] each)))

-- ---- questions

pub asked_fits : (pattern : Name) → IsName pattern → IsName (lookups.asked pattern)
asked_fits pattern is = record {
  object = is.object;
  kind = is.kind;
  zone = zone_fits (is_any_zone pattern.zone) (0x2A ∷ []) pattern.zone star_fits is.zone;
}

-- a lookup that can be asked
pub record IsAsked (s : Search) : Type 0 where
  pub id : s.id < 256
  pub pattern : IsName s.pattern

pub question_fits : (l : Lookups) (s : Search) → IsAddress l.own → IsAsked s → IsSpelled (question l s)
question_fits l s own is =
    let strings = three_fit s.pattern.object s.pattern.kind s.pattern.zone (is.pattern).object (is.pattern).kind
    (is.pattern).zone in
    let each = one_tuple (asking l.own s.pattern)
    (record { address = own; enumerator = omega arith; each = strings }) in (
      record { id = is.id; count = one_counts l.function; each = each },
      one_small l.function s.id
          (asking l.own s.pattern ∷ []) refl each,
    )

-- ---- replies

entry_fits : (table : Table) (r : Registered) → IsAddress table.own → IsString table.zone → IsNamed r
    → IsTuple (entry_in table r)
entry_fits table r own zone is = record {
  address = record { net = own.net; node = own.node; socket = is.socket };
  enumerator = is.enumerator;
  each = three_fit r.object r.kind table.zone is.object is.kind zone;
}

pub entries_fit : (table : Table) (p : Registered → Bool) (names : List Registered) → IsAddress table.own
    → IsString table.zone → AllByRecursion IsNamed names
    → AllByRecursion IsTuple (map (entry_in table) (filter p names))
entries_fit table p [] own zone each = tt
entries_fit table p (r ∷ rs) own zone each = go (entries_fit table p rs own zone each.1) (p r)
  where
    go : AllByRecursion IsTuple (map (entry_in table) (filter p rs)) → (b : Bool)
        → AllByRecursion IsTuple (map (entry_in table) (cond b (r ∷ filter p rs) (filter p rs)))
    go ih true = (entry_fits table r own zone each.0, ih)
    go ih false = ih

pub by_place : {X : Type 0} (P : X → Type 0) (xs : List X) → AllByRecursion P xs → All P xs
by_place P [] each k d lt = absurd (omega (arith, lt))
by_place P (x ∷ xs) each zero d lt = each.0
by_place P (x ∷ xs) each (suc k) d lt = by_place P xs each.1 k d (omega (arith, lt))

-- each of the replies can be spelled
pub replies_fit : (id : ℕ) (entries : List Entry) (replies : List (List Entry)) → id < 256 → AreReplies entries replies
    → All IsTuple entries →
    AllByRecursion (λ (reply : List Entry). IsSpelled (record { function = Reply; id = id; tuples = reply })) replies
replies_fit id entries [] fits are each = tt
replies_fit id entries (r ∷ rs) fits are each =
    let full : IsFull entries (length r) = are.0 in
    let lawful : IsLawful (record { function = Reply; id = id; tuples = r }) =
    record {
      id = fits;
      count = full.few;
      each = subst (All IsTuple) (sym are.1) (All-take IsTuple (length r) entries each);
    } in
    let small = full.fits in (
      (
        lawful,
        omega (
          arith,
          small,
          ap size_of are.1,
          length_spelling
              (record { function = Reply; id = id; tuples = r }),
        ),
      ),
      replies_fit id (drop (length r) entries) rs fits are.2
          (All-drop IsTuple (length r) entries each),
    )

-- ---- requests that are relayed

in_zone_fits : (zone : List ℕ) (t : Entry) → IsString zone → IsTuple t → IsTuple (in_zone zone t)
in_zone_fits zone t fits is = record {
  address = is.address;
  enumerator = is.enumerator;
  each = three_fit t.object t.kind (cond (is_any_zone t.zone) zone t.zone) (is.each 0 t.object (omega arith))
      (is.each 1 t.object (omega arith))
      (zone_fits (is_any_zone t.zone) zone t.zone fits (is.each 2 t.object (omega arith)));
}

one_in_zone : (zone : List ℕ) (tuples : List Entry) → IsString zone → length tuples ≡ 1 → All IsTuple tuples
    → All IsTuple (map (in_zone zone) tuples)
one_in_zone zone [] fits one each = absurd (omega (arith, one))
one_in_zone zone (t ∷ u ∷ ts) fits one each = absurd (omega (arith, one))
one_in_zone zone (t ∷ []) fits one each = one_tuple (in_zone zone t) (in_zone_fits zone t fits (first_tuple t [] each))

one_asks : (f : Function) (count : ℕ) → asks_router f ≡ true → HasCount f count → count ≡ 1
one_asks BroadcastRequest count asks is = is
one_asks ForwardRequest count asks is = is
one_asks LookUp count asks is = absurd cc
one_asks Reply count asks is = absurd cc

pub relayed_fits : (zone : List ℕ) (p : Content) → IsString zone → asks_router p.function ≡ true → IsLawful p
    → IsSpelled (relayed zone p)
relayed_fits zone p fits asks is =
    let one : length p.tuples ≡ 1 = one_asks p.function (length p.tuples) asks is.count in
    let still : length (map (in_zone zone) p.tuples) ≡ 1 = length-map p.tuples (in_zone zone) ∙ one in
    let each = one_in_zone zone p.tuples fits one is.each in
    (record { id = is.id; count = still; each = each }, one_small LookUp p.id (map (in_zone zone) p.tuples) still each)
