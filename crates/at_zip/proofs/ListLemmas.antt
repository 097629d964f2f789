-- The names of a page that are copied so far.
use Rattle.std.proofs.Common.{◌≡◌, ◌+◌, ◌<◌, ◌≤◌, ℕ, List, [], ◌∷◌, ◌++◌, length, get_or, take, drop, append_assoc}
use Rattle.std.proofs.Common.{Result, Ok, Err, Bor, refl, sym, ap, subst, ◌∙◌, arith}
use Rattle.std.specs.Prelude.{IfOk, IfErr, IsOk, IsOkAnd}
use Rattle.std.proofs.lemmas.List.{take_more, take_all}
use Rattle.std.proofs.lemmas.List.Elements.{All-get_or}
use Rattle.at_zip.specs.Fault.{StandsAt}
use Rattle.at_zip.specs.Names.{name_spelling, spelled}
use Rattle.at_zip.specs.Page.{Page, IsLawful}
use Rattle.at_zip.specs.Zones.{IsName}
use Rattle.at_zip.specs.declared.fault.ZipFault.{ZipFault}
use Rattle.at_zip.proofs.NameLemmas.{name_is_read}
use Rattle.at_zip.proofs.SpelledLemmas.{spelled_at}

-- so many names are copied behind those that stood, out of the end's number, and the rest begins with those that are
-- left
pub record IsCopiedTo (p : Page) (i end : ℕ) (rest : List ℕ) (before items : List (List ℕ))
    (len room : ℕ) : Type 0 where
  pub lawful : IsLawful p
  pub all : length p.names ≡ end
  pub copied : items ≡ before ++ take i p.names
  pub after : List ℕ
  pub left : rest ≡ spelled (drop i p.names) ++ after
  pub count : len ≡ length before + i
  pub fits : length before + end ≤ room

-- the next name is read from the rest
pub next_is_read : (p : Page) (i end : ℕ) (rest : List ℕ) (before items : List (List ℕ)) (len room : ℕ)
    (r : Result (Bor (List ℕ) × Bor (List ℕ)) ZipFault) → IsCopiedTo p i end rest before items len room → i < end →
    IfOk r (λ x. IsName x.0.now × (rest ≡ name_spelling x.0.now ++ x.1.now)) → IfErr r (λ fault. StandsAt fault rest) →
    (after : List ℕ) × IsOkAnd r
    (λ x. (x.0.now ≡ get_or p.names i []) × (x.1.now ≡ spelled (drop (i + 1) p.names) ++ after))
next_is_read p i end rest before items len room r so_far lt found fault =
    let within : i < length p.names = omega (arith, so_far.all) in (
      so_far.after,
      name_is_read r rest (get_or p.names i []) (spelled (drop (i + 1) p.names) ++ so_far.after) found fault
          (All-get_or IsName p.names i [] within so_far.lawful.each)
          (so_far.left ∙ spelled_at p.names i so_far.after within),
    )

pub is_ok_if_and : {X Y : Type 0} (r : Result X Y) (P : X → Type 0) → IsOkAnd r P → IsOk r
is_ok_if_and (Ok x) P h = refl
is_ok_if_and (Err e) P h = absurd h

pub at_ok : {X Y : Type 0} (r : Result X Y) (P : X → Type 0) (x : X) → IsOkAnd r P → r ≡ Ok x → P x
at_ok {X = X} {Y = Y} r P x h e = subst (λ (r : Result X Y). IsOkAnd r P) e h

pub copied_more : (p : Page) (i end : ℕ) (rest rest' : List ℕ) (before items items' : List (List ℕ))
    (len len' room room' : ℕ) (name after : List ℕ) → IsCopiedTo p i end rest before items len room → i < end →
    name ≡ get_or p.names i [] → rest' ≡ spelled (drop (i + 1) p.names) ++ after → items' ≡ items ++ name ∷ [] → len'
    ≡ len + 1 → room ≤ room' → IsCopiedTo p (i + 1) end rest' before items' len' room'
copied_more p i end rest rest' before items items' len len' room room' name after so_far lt is left pushed longer
    wider =
    let within : i < length p.names = omega (arith, so_far.all) in
    record {
      lawful = so_far.lawful;
      all = so_far.all;
      copied = pushed ∙ (λ k. so_far.copied k ++ is k ∷ [])
          ∙ append_assoc before (take i p.names) (get_or p.names i [] ∷ [])
          ∙ ap (λ l. before ++ l) (sym (take_more p.names i [] within));
      after = after;
      left = left;
      count = omega (arith, so_far.count);
      fits = omega (arith, so_far.fits);
    }

pub all_copied : (p : Page) (i end : ℕ) (rest : List ℕ) (before items : List (List ℕ)) (len room : ℕ)
    → IsCopiedTo p i end rest before items len room → end ≤ i → items ≡ before ++ p.names
all_copied p i end rest before items len room so_far over =
    so_far.copied ∙ ap (λ l. before ++ l) (take_all i p.names (omega (arith, so_far.all)))
