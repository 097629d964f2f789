-- What a transaction kept agrees with what came, up to the end of the answer.
use Rattle.std.proofs.Common.{◌≡◌, ℕ, zero, suc, ◌+◌, ◌<◌, Bool, true, false, cond, List, [], ◌∷◌, ◌++◌}
use Rattle.std.proofs.Common.{Option, Some, None, refl, sym, ap, subst, ◌∙◌, arith}
use Rattle.std.specs.Prelude.{find, option_map, ◌==◌}
use Rattle.std.proofs.lemmas.Bool.{true≢false, false≢true, eq-eqb, ne_eqb}
use Rattle.at_atp_requester.specs.Answers.{AnswerPart, is_wanted, bitmap_of, whole, with_part}
use Rattle.at_atp_frame.specs.Packets.{Packet}
use Rattle.at_atp_requester.specs.Wholes.{Came, first_at, firsts_from}

-- after the packet that ends the answer nothing matters
abbrev pub Unless : Bool → Type 0 → Type 0
Unless true X = Unit {0}
Unless false X = X

abbrev pub Same : Option AnswerPart → Option AnswerPart → Type 0 → Type 0
Same None None X = X
Same None (Some b) X = ⊥
Same (Some a) None X = ⊥
Same (Some a) (Some b) X = (a ≡ b) × Unless a.eom X

abbrev pub Agree : List (Option AnswerPart) → List (Option AnswerPart) → Type 0
Agree [] [] = Unit {0}
Agree [] (f ∷ fs) = ⊥
Agree (p ∷ ps) [] = ⊥
Agree (p ∷ ps) (f ∷ fs) = Same p f (Agree ps fs)

-- ---- what comes later

-- a packet that comes later is the first of its place only if none came before
first_later : (all : List Came) (c : Came) (place : ℕ) → first_at all place ≡ None → (c.place == place) ≡ true
    → first_at (all ++ c ∷ []) place ≡ Some c.part
first_later [] c place none is = rw is refl
first_later (d ∷ all) c place none is = go (λ g. first_later all c place g is) (d.place == place) refl none
  where
    go : (first_at all place ≡ None → first_at (all ++ c ∷ []) place ≡ Some c.part) → (b : Bool) → (d.place == place)
        ≡ b → option_map (λ (x : Came). x.part) (cond b (Some d) (find (λ (x : Came). x.place == place) all)) ≡ None →
        first_at (d ∷ (all ++ c ∷ [])) place ≡ Some c.part
    go ih true e g = absurd (cc)
    go ih false e g = rw e (ih g)

first_stays : (all : List Came) (c : Came) (place : ℕ) (a : AnswerPart) → first_at all place ≡ Some a
    → first_at (all ++ c ∷ []) place ≡ Some a
first_stays [] c place a some = absurd (cc)
first_stays (d ∷ all) c place a some = go (λ g. first_stays all c place a g) (d.place == place) refl some
  where
    go : (first_at all place ≡ Some a → first_at (all ++ c ∷ []) place ≡ Some a) → (b : Bool) → (d.place == place) ≡ b
        → option_map (λ (x : Came). x.part) (cond b (Some d) (find (λ (x : Came). x.place == place) all)) ≡ Some a →
        first_at (d ∷ (all ++ c ∷ [])) place ≡ Some a
    go ih true e g = rw e g
    go ih false e g = rw e (ih g)

first_other : (all : List Came) (c : Came) (place : ℕ) → (c.place == place) ≡ false → first_at (all ++ c ∷ []) place
    ≡ first_at all place
first_other [] c place other = rw other refl
first_other (d ∷ all) c place other = go (first_other all c place other) (d.place == place) refl
  where
    go : first_at (all ++ c ∷ []) place ≡ first_at all place → (b : Bool) → (d.place == place) ≡ b
        → first_at (d ∷ (all ++ c ∷ [])) place ≡ first_at (d ∷ all) place
    go ih true e = rw e refl
    go ih false e = rw e ih

-- a packet for an earlier place changes none of these
firsts_past : (n place : ℕ) (all : List Came) (c : Came) → c.place < place → firsts_from place n (all ++ c ∷ [])
    ≡ firsts_from place n all
firsts_past zero place all c before = refl
firsts_past (suc n) place all c before =
    let other : (c.place == place) ≡ false = ne_eqb c.place place (λ e. absurd (omega (arith, before, e))) in
    let rest = firsts_past n (place + 1) all c (omega (arith, before)) in
    λ i. first_other all c place other i ∷ rest i

-- ---- one packet more

pub step_wanted : (ps : List (Option AnswerPart)) (n k j : ℕ) (all : List Came) (c : Came) → c.place ≡ k + j
    → Agree ps (firsts_from k n all) → is_wanted ps j ≡ true
    → Agree (with_part ps j c.part) (firsts_from k n (all ++ c ∷ []))
step_wanted [] n k j all c at agree wanted = absurd (cc)
step_wanted (p ∷ ps) zero k j all c at agree wanted = absurd agree
step_wanted (None ∷ ps) (suc n) k zero all c at agree wanted = go (first_at all k) refl agree
  where
    here : (c.place == k) ≡ true
    here = eq-eqb c.place k (omega (arith, at))

    rest : (b : Bool) → Agree ps (firsts_from (k + 1) n all)
        → Unless b (Agree ps (firsts_from (k + 1) n (all ++ c ∷ [])))
    rest true h = tt
    rest false h = subst (Agree ps) (sym (firsts_past n (k + 1) all c (omega (arith, at)))) h

    go : (o : Option AnswerPart) → first_at all k ≡ o → Same None o (Agree ps (firsts_from (k + 1) n all))
        → Agree (Some c.part ∷ ps) (firsts_from k (suc n) (all ++ c ∷ []))
    go None e h = rw (first_later all c k e here) (refl, rest c.part.eom h)
    go (Some a) e h = absurd h
step_wanted (Some a ∷ ps) (suc n) k zero all c at agree wanted = absurd (cc)
step_wanted (None ∷ ps) (suc n) k (suc j) all c at agree wanted =
    go (λ h. step_wanted ps n (k + 1) j all c (omega (arith, at)) h wanted) (first_at all k) refl agree
  where
    other : (c.place == k) ≡ false
    other = ne_eqb c.place k (λ e. absurd (omega (arith, at, e)))

    go : (Agree ps (firsts_from (k + 1) n all) → Agree (with_part ps j c.part) (firsts_from (k + 1) n (all ++ c ∷ [])))
        → (o : Option AnswerPart) → first_at all k ≡ o → Same None o (Agree ps (firsts_from (k + 1) n all)) →
        Agree (None ∷ with_part ps j c.part) (firsts_from k (suc n) (all ++ c ∷ []))
    go ih None e h = rw (first_other all c k other, e) (ih h)
    go ih (Some a) e h = absurd h
step_wanted (Some a ∷ ps) (suc n) k (suc j) all c at agree wanted =
    go (λ h w. step_wanted ps n (k + 1) j all c (omega (arith, at)) h w) (first_at all k) refl agree a.eom refl wanted
  where
    go : (Agree ps (firsts_from (k + 1) n all) → is_wanted ps j ≡ true
        → Agree (with_part ps j c.part) (firsts_from (k + 1) n (all ++ c ∷ []))) → (o : Option AnswerPart)
        → first_at all k ≡ o → Same (Some a) o (Agree ps (firsts_from (k + 1) n all)) →
        (b : Bool) → a.eom ≡ b → cond b false (is_wanted ps j) ≡ true
        → Agree (Some a ∷ with_part ps j c.part) (firsts_from k (suc n) (all ++ c ∷ []))
    go ih None e h b end w = absurd h
    go ih (Some f) e h true end w = absurd (false≢true w)
    go ih (Some f) e h false end w =
        rw (first_stays all c k f e)
        (h.0, rw end (ih (subst (λ x. Unless x (Agree ps (firsts_from (k + 1) n all))) end h.1) w))

pub step_unwanted : (ps : List (Option AnswerPart)) (n k j : ℕ) (all : List Came) (c : Came) → c.place ≡ k + j
    → Agree ps (firsts_from k n all) → is_wanted ps j ≡ false → Agree ps (firsts_from k n (all ++ c ∷ []))
step_unwanted [] zero k j all c at agree unwanted = tt
step_unwanted [] (suc n) k j all c at agree unwanted = absurd agree
step_unwanted (p ∷ ps) zero k j all c at agree unwanted = absurd agree
step_unwanted (None ∷ ps) (suc n) k zero all c at agree unwanted = absurd (true≢false unwanted)
step_unwanted (Some a ∷ ps) (suc n) k zero all c at agree unwanted = go (first_at all k) refl agree
  where
    rest : (b : Bool) → Unless b (Agree ps (firsts_from (k + 1) n all))
        → Unless b (Agree ps (firsts_from (k + 1) n (all ++ c ∷ [])))
    rest true h = tt
    rest false h = subst (Agree ps) (sym (firsts_past n (k + 1) all c (omega (arith, at)))) h

    go : (o : Option AnswerPart) → first_at all k ≡ o → Same (Some a) o (Agree ps (firsts_from (k + 1) n all))
        → Agree (Some a ∷ ps) (firsts_from k (suc n) (all ++ c ∷ []))
    go None e h = absurd h
    go (Some f) e h = rw (first_stays all c k f e) (h.0, rest a.eom h.1)
step_unwanted (None ∷ ps) (suc n) k (suc j) all c at agree unwanted =
    go (λ h. step_unwanted ps n (k + 1) j all c (omega (arith, at)) h unwanted) (first_at all k) refl agree
  where
    other : (c.place == k) ≡ false
    other = ne_eqb c.place k (λ e. absurd (omega (arith, at, e)))

    go : (Agree ps (firsts_from (k + 1) n all) → Agree ps (firsts_from (k + 1) n (all ++ c ∷ [])))
        → (o : Option AnswerPart) → first_at all k ≡ o → Same None o (Agree ps (firsts_from (k + 1) n all))
        → Agree (None ∷ ps) (firsts_from k (suc n) (all ++ c ∷ []))
    go ih None e h = rw (first_other all c k other, e) (ih h)
    go ih (Some a) e h = absurd h
step_unwanted (Some a ∷ ps) (suc n) k (suc j) all c at agree unwanted =
    go (λ h w. step_unwanted ps n (k + 1) j all c (omega (arith, at)) h w)
    (first_at all k) refl agree a.eom refl unwanted
  where
    go : (Agree ps (firsts_from (k + 1) n all) → is_wanted ps j ≡ false
        → Agree ps (firsts_from (k + 1) n (all ++ c ∷ []))) → (o : Option AnswerPart) → first_at all k ≡ o
        → Same (Some a) o (Agree ps (firsts_from (k + 1) n all)) →
        (b : Bool) → a.eom ≡ b → cond b false (is_wanted ps j) ≡ false
        → Agree (Some a ∷ ps) (firsts_from k (suc n) (all ++ c ∷ []))
    go ih None e h b end w = absurd h
    go ih (Some f) e h true end w = rw (first_stays all c k f e) (h.0, rw end tt)
    go ih (Some f) e h false end w =
        rw (first_stays all c k f e)
        (h.0, rw end (ih (subst (λ x. Unless x (Agree ps (firsts_from (k + 1) n all))) end h.1) w))

-- ---- what agrees is wanted and whole alike

pub same_whole : (ps fs : List (Option AnswerPart)) → Agree ps fs → whole ps ≡ whole fs
same_whole [] [] h = refl
same_whole [] (f ∷ fs) h = absurd h
same_whole (p ∷ ps) [] h = absurd h
same_whole (None ∷ ps) (None ∷ fs) h = refl
same_whole (None ∷ ps) (Some f ∷ fs) h = absurd h
same_whole (Some a ∷ ps) (None ∷ fs) h = absurd h
same_whole (Some a ∷ ps) (Some f ∷ fs) h = go (λ g. same_whole ps fs g) a.eom refl h.1
  where
    of : AnswerPart → Option (List Packet) → Bool → Option (List Packet)
    of x rest b = cond b (Some (x.packet ∷ [])) (option_map (λ l. x.packet ∷ l) rest)

    go : (Agree ps fs → whole ps ≡ whole fs) → (b : Bool) → a.eom ≡ b → Unless b (Agree ps fs) → whole (Some a ∷ ps)
        ≡ whole (Some f ∷ fs)
    go ih true e g = rw (
      e,
      sym (ap (λ (x : AnswerPart). x.eom) h.0)
          ∙ e,
    ) (ap (λ (x : AnswerPart). Some (x.packet ∷ [])) h.0)
    go ih false e g = rw (e, sym (ap (λ (x : AnswerPart). x.eom) h.0) ∙ e)
        (λ i. option_map (λ l. (h.0 i).packet ∷ l) (ih g i))

pub same_bitmap : (ps fs : List (Option AnswerPart)) → Agree ps fs → bitmap_of ps ≡ bitmap_of fs
same_bitmap [] [] h = refl
same_bitmap [] (f ∷ fs) h = absurd h
same_bitmap (p ∷ ps) [] h = absurd h
same_bitmap (None ∷ ps) (None ∷ fs) h = let ih = same_bitmap ps fs h in omega (arith, ih)
same_bitmap (None ∷ ps) (Some f ∷ fs) h = absurd h
same_bitmap (Some a ∷ ps) (None ∷ fs) h = absurd h
same_bitmap (Some a ∷ ps) (Some f ∷ fs) h = go (λ g. same_bitmap ps fs g) a.eom refl h.1
  where
    go : (Agree ps fs → bitmap_of ps ≡ bitmap_of fs) → (b : Bool) → a.eom ≡ b → Unless b (Agree ps fs)
        → bitmap_of (Some a ∷ ps) ≡ bitmap_of (Some f ∷ fs)
    go ih true e g = rw (e, sym (ap (λ (x : AnswerPart). x.eom) h.0) ∙ e) refl
    go ih false e g = let rest = ih g in rw (e, sym (ap (λ (x : AnswerPart). x.eom) h.0) ∙ e) (omega (arith, rest))
