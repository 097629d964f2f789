-- What the items of a stream are spelled by, one after the other.
use Rattle.std.proofs.Common.{◌≡◌, ◌<◌, ◌≤◌, ℕ, ◌+◌, ◌%◌, Bool, true, false, cond, filter, List, []}
use Rattle.std.proofs.Common.{◌∷◌, ◌++◌, length, take, drop, map, Ok, refl, sym, ap, subst, ◌∙◌, append-nil}
use Rattle.std.proofs.Common.{append_assoc, arith, length-append, length-take-le, slice_index, take-append-drop}
use Rattle.std.proofs.lemmas.List.{map-append, take_all, take_more}
use Rattle.hex.proofs.Pairs.{cons_byte, decode_pairs-ok_pair}
use Rattle.hex.specs.Hex.{decode_of, decode_pairs, pair_value, ◌>>=◌, digit_or_error, hex_digit_value}
use Rattle.hex.specs.declared.error.FromHexError.{FromHexError}
use Rattle.hex.proofs.HexLemmas.{decode_of-even, decode_of-ok}
use Rattle.std.specs.Prelude.{IfOk, Option, Some, None, Result, Err}
use Rattle.at_faults.specs.declared.fault.LineFault.{LineFault}
use Rattle.at_faults.specs.declared.fault.LineFault.TheVariants.{NoMemory, Unlawful}
use Rattle.at_call_words.specs.Readings.{IfUnlawful}
use Rattle.at_adsp_end.specs.declared.item.Item.{Item}
use Rattle.at_adsp_end.specs.declared.item.Item.TheVariants.{Byte}
use Rattle.at_call_words.specs.Items.{AreItems, IsRun}
use Rattle.at_words.specs.Words.{has_bytes, is_space, words_of}
use Rattle.std.specs.List.{slice_split}

-- ---- words

run_more : (ws : List (List ℕ)) (items run : List Item) (w : List ℕ) → AreItems ws items → IsRun w run
    → AreItems (ws ++ w ∷ []) (items ++ run)
run_more [] items run w are is = (run, [], is, ap (λ l. l ++ run) are ∙ sym (append-nil run), refl)
run_more (v ∷ ws) items run w (first, rest, its, parts, are) is =
    (first, rest ++ run, its, ap (λ l. l ++ run) parts ∙ append_assoc first rest run, run_more ws rest run w are is)

-- the words before these spell the items so far
abbrev pub ItemsSoFar : List (List ℕ) → List (List ℕ) → List Item → Type 0
ItemsSoFar all rest items = (said : List (List ℕ)) × (all ≡ said ++ rest) × AreItems said items

pub next_items : (all rest left : List (List ℕ)) (items more run : List Item) (word : List ℕ)
    → ItemsSoFar all rest items → rest ≡ word ∷ left → IsRun word run → more ≡ items ++ run → ItemsSoFar all left more
next_items all rest left items more run word (said, parts, are) next is new = (
  said ++ word ∷ [],
  parts ∙ ap (λ l. said ++ l) next ∙ sym (append_assoc said (word ∷ []) left),
  subst (AreItems (said ++ word ∷ [])) (sym new) (run_more said items run word are is),
)

pub all_items : (all rest : List (List ℕ)) (items : List Item) → ItemsSoFar all rest items → rest ≡ []
    → AreItems all items
all_items all rest items (said, parts, are) none =
    subst (λ l. AreItems l items) (sym (parts ∙ ap (λ l. said ++ l) none ∙ append-nil said)) are

no_run : (said left : List (List ℕ)) (word : List ℕ) (items : List Item) → ((run : List Item) → ¬ IsRun word run)
    → ¬ AreItems (said ++ word ∷ left) items
no_run [] left word items never (run, rest, is, parts, are) = never run is
no_run (v ∷ said) left word items never (run, rest, is, parts, are) = no_run said left word rest never are

-- if a word spells no run, all of them together spell no items
pub one_lacks : (all rest left : List (List ℕ)) (things : List Item) (word : List ℕ) → ItemsSoFar all rest things
    → rest ≡ word ∷ left → ((run : List Item) → ¬ IsRun word run) → (items : List Item) → ¬ AreItems all items
one_lacks all rest left things word (said, parts, are) next never items h =
    no_run said left word items never (subst (λ l. AreItems l items) (parts ∙ ap (λ l. said ++ l) next) h)

kept_by : (b : Bool) (p : List ℕ → Bool) (x w : List ℕ) (xs ys : List (List ℕ)) → p x ≡ b
    → (filter p xs ≡ w ∷ ys → p w ≡ true) → cond b (x ∷ filter p xs) (filter p xs) ≡ w ∷ ys → p w ≡ true
kept_by true p x w xs ys is later here = let same : x ≡ w = cc in sym (ap p same) ∙ is
kept_by false p x w xs ys is later here = later here

kept : (p : List ℕ → Bool) (w : List ℕ) (xs ys : List (List ℕ)) → filter p xs ≡ w ∷ ys → p w ≡ true
kept p w [] ys h = cc
kept p w (x ∷ xs) ys h = kept_by (p x) p x w xs ys refl (kept p w xs ys) h

-- a word of a line has bytes
pub word_has_bytes : (line word : List ℕ) (left : List (List ℕ)) → words_of line ≡ word ∷ left → 0 < length word
word_has_bytes line [] left h = let bytes = kept has_bytes [] (slice_split is_space line) left h in cc
word_has_bytes line (c ∷ word) left h = omega arith

-- ---- pairs of digits

-- where the digits stand shows in errors alone
digit_anywhere : (c i j v : ℕ) (o : Option ℕ) → digit_or_error c i o ≡ Ok v → digit_or_error c j o ≡ Ok v
digit_anywhere c i j v (Some w) h = h
digit_anywhere c i j v None h = absurd (cc)

then_ok : {X Y : Type 0} (r : Result X FromHexError) (f : X → Result Y FromHexError) (y : Y) → (r >>= f) ≡ Ok y
    → (x : X) × (r ≡ Ok x) × (f x ≡ Ok y)
then_ok (Ok x) f y h = (x, refl, h)
then_ok (Err e) f y h = absurd (cc)

pair_anywhere : (a b i j v : ℕ) → pair_value a b i ≡ Ok v → pair_value a b j ≡ Ok v
pair_anywhere a b i j v h =
    let (high, is_high, low) = then_ok (digit_or_error a i (hex_digit_value a)) _ v h in
    let (l, is_low, value) = then_ok (digit_or_error b (i + 1) (hex_digit_value b)) _ v low in
    rw (
      digit_anywhere a i j high (hex_digit_value a) is_high,
      digit_anywhere b (i + 1) (j + 1) l
          (hex_digit_value b) is_low,
    ) value

pairs_anywhere : (i j : ℕ) (text bytes : List ℕ) → decode_pairs i text ≡ Ok bytes → decode_pairs j text ≡ Ok bytes
unfolding decode_pairs
pairs_anywhere i j [] bytes h = h
pairs_anywhere i j (a ∷ []) bytes h = absurd (cc)
pairs_anywhere i j (a ∷ b ∷ text) bytes h =
    let (byte, is_byte, rest) = then_ok (pair_value a b i) _ bytes h in
    let (more, are, whole) = then_ok (decode_pairs (i + 2) text) _ bytes rest in
    rw (pair_anywhere a b i j byte is_byte, pairs_anywhere (i + 2) (j + 2) text more are) whole

pairs_more : (i j : ℕ) (block after bytes more : List ℕ) → decode_pairs i block ≡ Ok bytes
    → decode_pairs j after ≡ Ok more → decode_pairs i (block ++ after) ≡ Ok (bytes ++ more)
unfolding decode_pairs
pairs_more i j [] after bytes more first rest =
    let none : bytes ≡ [] = cc in rw none (pairs_anywhere j i after more rest)
pairs_more i j (a ∷ []) after bytes more first rest = absurd (cc)
pairs_more i j (a ∷ b ∷ block) after bytes more first rest =
    let (byte, is_byte, left) = then_ok (pair_value a b i) _ bytes first in
    let (those, are, whole) = then_ok (decode_pairs (i + 2) block) _ bytes left in
    let same : bytes ≡ byte ∷ those = cc in
    decode_pairs-ok_pair i a b byte (block ++ after) is_byte
    ∙ ap (cons_byte byte) (pairs_more (i + 2) j block after those more are rest)
    ∙ ap (λ l. Ok (l ++ more)) (sym same)

pairs_parts : (i : ℕ) (block after all : List ℕ) → length block % 2 ≡ 0 → decode_pairs i (block ++ after) ≡ Ok all
    → (bytes more : List ℕ) × (decode_pairs i block ≡ Ok bytes) × (decode_pairs i after ≡ Ok more)
unfolding decode_pairs
pairs_parts i [] after all even h = ([], all, refl, h)
pairs_parts i (a ∷ []) after all even h = absurd (omega (arith, even))
pairs_parts i (a ∷ b ∷ block) after all even h =
    let (byte, is_byte, left) = then_ok (pair_value a b i) _ all h in
    let (those, are, whole) = then_ok (decode_pairs (i + 2) (block ++ after)) _ all left in
    let (bytes, more, front, back) = pairs_parts (i + 2) block after those (omega (arith, even)) are in
    let first = decode_pairs-ok_pair i a b byte block is_byte ∙ ap (cons_byte byte) front in
    (byte ∷ bytes, more, first, pairs_anywhere (i + 2) i after more back)

-- what digits spell by themselves, as pairs from a place on
by_pairs : (text bytes : List ℕ) → decode_of text ≡ Ok bytes → decode_pairs 0 text ≡ Ok bytes
by_pairs text bytes h = sym (decode_of-even text (decode_of-ok text bytes h).0) ∙ h

of_pairs : (text bytes : List ℕ) → length text % 2 ≡ 0 → decode_pairs 0 text ≡ Ok bytes → decode_of text ≡ Ok bytes
of_pairs text bytes even h = decode_of-even text even ∙ h

-- what two texts of digits spell, one after the other
decode_next : (block after bytes more : List ℕ) → decode_of block ≡ Ok bytes → decode_of after ≡ Ok more
    → decode_of (block ++ after) ≡ Ok (bytes ++ more)
decode_next block after bytes more first rest =
    let even = (decode_of-ok block bytes first).0 in
    let later = (decode_of-ok after more rest).0 in
    of_pairs (block ++ after) (bytes ++ more) (omega (arith, even, later, length-append block after))
    (pairs_more 0 0 block after bytes more (by_pairs block bytes first) (by_pairs after more rest))

decode_split : (block after all : List ℕ) → length block % 2 ≡ 0 → decode_of (block ++ after) ≡ Ok all
    → (bytes more : List ℕ) × (decode_of block ≡ Ok bytes) × (decode_of after ≡ Ok more)
decode_split block after all even h =
    let whole = (decode_of-ok (block ++ after) all h).0 in
    let (bytes, more, front, back) = pairs_parts 0 block after all even (by_pairs (block ++ after) all h) in (
      bytes,
      more,
      of_pairs block bytes even front,
      of_pairs after more (omega (arith, even, whole, length-append block after)) back,
    )

-- the digits before the rest spell the bytes so far, which stand behind what was there before
abbrev pub BytesSoFar : List ℕ → List ℕ → List Item → List Item → Type 0
BytesSoFar digits rest before items =
    ((bytes : List ℕ) × (items ≡ before ++ map Byte bytes)
    × ((more : List ℕ) → decode_of rest ≡ Ok more → decode_of digits ≡ Ok (bytes ++ more)))
    × ((all : List ℕ) → decode_of digits ≡ Ok all → (more : List ℕ) × (decode_of rest ≡ Ok more))

pub no_bytes : (digits : List ℕ) (before : List Item) → BytesSoFar digits digits before before
no_bytes digits before = (([], sym (append-nil before), λ more h. h), λ all h. (all, h))

-- the items of some bytes, and of more
pub items_more : (before items new : List Item) (bytes more : List ℕ) → items ≡ before ++ map Byte bytes
    → new ≡ items ++ map Byte more → new ≡ before ++ map Byte (bytes ++ more)
items_more before items new bytes more are more_are =
    more_are ∙ ap (λ l. l ++ map Byte more) are ∙ append_assoc before (map Byte bytes) (map Byte more)
    ∙ ap (λ l. before ++ l) (sym (map-append Byte bytes more))

even_block : (rest block : List ℕ) → block ≡ take 128 rest → 128 ≤ length rest → length block % 2 ≡ 0
even_block rest block front fits =
    let long : length block ≡ 128 = ap length front ∙ length-take-le 128 rest fits in omega (arith, long)

-- a block is what is taken of the rest, and the rest what it leaves
parts_of : (rest block after : List ℕ) (n : ℕ) → block ≡ take n rest → after ≡ drop n rest → rest ≡ block ++ after
parts_of rest block after n front back = rw (front, back) (sym (take-append-drop n rest))

pub next_bytes : (digits rest block after : List ℕ) (before items new : List Item) (run : List ℕ)
    → BytesSoFar digits rest before items → block ≡ take 128 rest → after ≡ drop 128 rest → 128 ≤ length rest
    → decode_of block ≡ Ok run → new ≡ items ++ map Byte run → BytesSoFar digits after before new
next_bytes digits rest block after before items new run ((bytes, are, follow), only) front back fits is more_are =
    let parts = parts_of rest block after 128 front back in (
      (
        bytes ++ run,
        items_more before items new bytes run are more_are,
        λ more h. subst (λ l. decode_of digits ≡ Ok l) (sym (append_assoc bytes run more))
            (follow (run ++ more) (ap decode_of parts ∙ decode_next block after run more is h)),
      ),
      λ all h.
          let (more, left) = only all h in
          let (b, later, first, behind) =
          decode_split block after more (even_block rest block front fits) (sym (ap decode_of parts) ∙ left) in
          (later, behind),
    )

-- the last digits, which spell bytes
pub all_bytes : (digits rest : List ℕ) (before items new : List Item) (run : List ℕ)
    → BytesSoFar digits rest before items → decode_of rest ≡ Ok run → new ≡ items ++ map Byte run
    → (bytes : List ℕ) × (decode_of digits ≡ Ok bytes) × (new ≡ before ++ map Byte bytes)
all_bytes digits rest before items new run ((bytes, are, follow), only) is more_are =
    (bytes ++ run, follow run is, items_more before items new bytes run are more_are)

-- the last digits, which spell no bytes
pub bad_rest : (digits rest : List ℕ) (before items : List Item) → BytesSoFar digits rest before items
    → ((bytes : List ℕ) → ¬ (decode_of rest ≡ Ok bytes)) → (bytes : List ℕ) → ¬ (decode_of digits ≡ Ok bytes)
bad_rest digits rest before items (so_far, only) never bytes h =
    let (more, left) = only bytes h in never more left

-- a block that spells no bytes
pub bad_block : (digits rest block after : List ℕ) (before items : List Item) → BytesSoFar digits rest before items
    → block ≡ take 128 rest → after ≡ drop 128 rest → 128 ≤ length rest
    → ((bytes : List ℕ) → ¬ (decode_of block ≡ Ok bytes)) → (bytes : List ℕ) → ¬ (decode_of digits ≡ Ok bytes)
bad_block digits rest block after before items (so_far, only) front back fits never bytes h =
    let (more, left) = only bytes h in
    let parts = parts_of rest block after 128 front back in
    let (run, later, first, behind) =
    decode_split block after more (even_block rest block front fits) (sym (ap decode_of parts) ∙ left) in
    never run first

-- the items of one byte more
pub one_more : (before items new : List Item) (bytes : List ℕ) (at_ byte : ℕ) → at_ < length bytes
    → byte ≡ slice_index bytes at_ → items ≡ before ++ map Byte (take at_ bytes) → new ≡ items ++ Byte byte ∷ []
    → new ≡ before ++ map Byte (take (at_ + 1) bytes)
one_more before items new bytes at_ byte fits is are more =
    items_more before items new (take at_ bytes) (byte ∷ []) are more
    ∙ ap (λ l. before ++ map Byte l) (ap (λ b. take at_ bytes ++ b ∷ []) is ∙ sym (take_more bytes at_ 0 fits))

-- the items of all bytes
pub each_byte : (digits : List ℕ) (before items : List Item) (bytes : List ℕ) (at_ : ℕ) → decode_of digits ≡ Ok bytes
    → length bytes ≤ at_ → items ≡ before ++ map Byte (take at_ bytes)
    → (all : List ℕ) × (decode_of digits ≡ Ok all) × (items ≡ before ++ map Byte all)
each_byte digits before items bytes at_ is end are =
    (bytes, is, are ∙ ap (λ l. before ++ map Byte l) (take_all at_ bytes end))

-- the last digits, which spell bytes, or break a rule
pub last_bytes : {T : Type 0} (digits rest : List ℕ) (before items new : List Item)
    → BytesSoFar digits rest before items → (r : Result T LineFault)
    → IfOk r (λ x. (run : List ℕ) × (decode_of rest ≡ Ok run) × (new ≡ items ++ map Byte run))
    → IfOk r (λ x. (bytes : List ℕ) × (decode_of digits ≡ Ok bytes) × (new ≡ before ++ map Byte bytes))
last_bytes digits rest before items new so_far (Ok x) (run, is, more) =
    all_bytes digits rest before items new run so_far is more
last_bytes digits rest before items new so_far (Err e) said = said

pub last_refused : {T : Type 0} (digits rest : List ℕ) (before items : List Item)
    → BytesSoFar digits rest before items → (r : Result T LineFault)
    → IfUnlawful r ((bytes : List ℕ) → ¬ (decode_of rest ≡ Ok bytes))
    → IfUnlawful r ((bytes : List ℕ) → ¬ (decode_of digits ≡ Ok bytes))
last_refused digits rest before items so_far (Ok x) only = tt
last_refused digits rest before items so_far (Err (Unlawful rule)) only =
    bad_rest digits rest before items so_far only
last_refused digits rest before items so_far (Err NoMemory) only = tt
