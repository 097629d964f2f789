-- What words say, one after the other.
use Rattle.std.proofs.Common.{◌≡◌, ℕ, List, [], ◌∷◌, ◌++◌, Ok, Err, None, Some, Result, refl, sym, ap, subst, ◌∙◌}
use Rattle.std.proofs.Common.{append-nil, append_assoc}
use Rattle.std.specs.Prelude.{Option}
use Rattle.std.specs.Option.{ok_or}
use Rattle.std.specs.Result.{IsErrAnd}
use Rattle.std.proofs.lemmas.Result.{err_from_is_err_and}
use Rattle.std.specs.List.{AllZip}
use Rattle.at_faults.specs.declared.fault.LineFault.{LineFault}
use Rattle.at_faults.specs.declared.fault.LineFault.TheVariants.{NoMemory, Unlawful}
use Rattle.at_words.specs.Readings.{IsFound}
use Rattle.at_call_words.specs.Readings.{IfUnlawful, IsFoundInMemory}

-- what was found by a reader of options, told as a result
pub in_memory : {T : Type 0} (P : T → Type 0) (o : Option T) (fault : LineFault) (r : Result T LineFault)
    → r ≡ ok_or o fault → IsFound o P → IsFoundInMemory r P
in_memory P (Some x) fault r is found = rw is found
in_memory P None (Unlawful rule) r is nothing = rw is nothing
in_memory P None NoMemory r is nothing = rw is tt

-- what the exit of a `?` returns
pub exit_of : {T : Type 0} (r : Result T LineFault) (fault : LineFault) → IsErrAnd r (λ f. f ≡ fault) → r ≡ Err fault
exit_of r fault h = let (f, is, same) = err_from_is_err_and r h in is ∙ ap Err same

-- a fault is told on, unless a growth was refused
pub told_on : {S T : Type 0} (P : S → Type 0) (Q : T → Type 0) (q : Result S LineFault) (r : Result T LineFault)
    (fault : LineFault) → q ≡ Err fault → r ≡ Err fault → IsFoundInMemory q P → (((s : S) → ¬ P s) → (t : T) → ¬ Q t)
    → IsFoundInMemory r Q
told_on P Q q r (Unlawful rule) was is nothing so = rw is (so (rw was at nothing))
told_on P Q q r NoMemory was is nothing so = rw is tt

pub unlawful_told : {T : Type 0} (P : Type 0) (r : Result T LineFault) (fault : LineFault) → r ≡ Err fault → P
    → IfUnlawful r P
unlawful_told P r (Unlawful rule) is so = rw is so
unlawful_told P r NoMemory is so = rw is tt

pub lacks_told : {S T : Type 0} (P : Type 0) (Q : T → Type 0) (q : Result S LineFault) (r : Result T LineFault)
    (fault : LineFault) → q ≡ Err fault → r ≡ Err fault → IfUnlawful q P → (P → (t : T) → ¬ Q t) → IsFoundInMemory r Q
lacks_told P Q q r (Unlawful rule) was is lacks so = rw is (so (rw was at lacks))
lacks_told P Q q r NoMemory was is lacks so = rw is tt

-- a broken rule is told on, and what is so then
pub lack_told : {S T : Type 0} (P Q : Type 0) (q : Result S LineFault) (r : Result T LineFault) (fault : LineFault)
    → q ≡ Err fault → r ≡ Err fault → IfUnlawful q P → (P → Q) → IfUnlawful r Q
lack_told P Q q r (Unlawful rule) was is lacks so = rw is (so (rw was at lacks))
lack_told P Q q r NoMemory was is lacks so = rw is tt

pub none_of : {T E : Type 0} (o : Option T) (e : E) (r : Result T E) (f : E) → r ≡ ok_or o e → r ≡ Err f → o ≡ None
none_of None e r f is fault = refl
none_of (Some y) e r f is fault = cc

pub some_of : {T E : Type 0} (o : Option T) (e : E) (r : Result T E) (x : T) → r ≡ ok_or o e → r ≡ Ok x → o ≡ Some x
some_of None e r x is ok = cc
some_of (Some y) e r x is ok = cc

-- each word says one thing
module _ {T : Type 0} (P : List ℕ → T → Type 0) where
  one_more : (ws : List (List ℕ)) (ts : List T) (w : List ℕ) (t : T) → AllZip P ws ts → P w t
      → AllZip P (ws ++ w ∷ []) (ts ++ t ∷ [])
  one_more [] [] w t h is = (is, tt)
  one_more (v ∷ ws) (u ∷ ts) w t h is = (h.0, one_more ws ts w t h.1 is)
  one_more [] (u ∷ ts) w t h is = absurd h
  one_more (v ∷ ws) [] w t h is = absurd h

  each_says : (said left : List (List ℕ)) (w : List ℕ) (ts : List T) → ((t : T) → ¬ P w t)
      → ¬ AllZip P (said ++ w ∷ left) ts
  each_says [] left w [] none h = h
  each_says [] left w (t ∷ ts) none h = none t h.0
  each_says (v ∷ said) left w [] none h = h
  each_says (v ∷ said) left w (t ∷ ts) none h = each_says said left w ts none h.1

  -- the words before these say the things so far
  abbrev pub SaidSoFar : List (List ℕ) → List (List ℕ) → List T → Type 0
  SaidSoFar all rest things = (said : List (List ℕ)) × (all ≡ said ++ rest) × AllZip P said things

  pub none_said : (all : List (List ℕ)) → SaidSoFar all all []
  none_said all = ([], refl, tt)

  pub next_said : (all rest left : List (List ℕ)) (things more : List T) (word : List ℕ) (t : T)
      → SaidSoFar all rest things → rest ≡ word ∷ left → P word t → more ≡ things ++ t ∷ [] → SaidSoFar all left more
  next_said all rest left things more word t (said, parts, are) next is new = (
    said ++ word ∷ [],
    parts ∙ ap (λ l. said ++ l) next ∙ sym (append_assoc said (word ∷ []) left),
    subst (AllZip P (said ++ word ∷ [])) (sym new) (one_more said things word t are is),
  )

  pub all_said : (all rest : List (List ℕ)) (things : List T) → SaidSoFar all rest things → rest ≡ []
      → AllZip P all things
  all_said all rest things (said, parts, are) none =
      subst (λ l. AllZip P l things) (sym (parts ∙ ap (λ l. said ++ l) none ∙ append-nil said)) are

  -- if a word says nothing, all of them together say nothing
  pub one_lacks : (all rest left : List (List ℕ)) (things : List T) (word : List ℕ) → SaidSoFar all rest things → rest
      ≡ word ∷ left → ((t : T) → ¬ P word t) → (ts : List T) → ¬ AllZip P all ts
  one_lacks all rest left things word (said, parts, are) next none ts h =
      each_says said left word ts none (subst (λ l. AllZip P l ts) (parts ∙ ap (λ l. said ++ l) next) h)
