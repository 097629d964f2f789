-- What is stamped with its event: how many there are, and which stands at an index.
use Rattle.std.proofs.Common.{◌≡◌, ℕ, zero, suc, List, [], ◌∷◌, ◌++◌, length, map, replicate, Some, refl, sym, ap, ◌∙◌}
use Rattle.std.proofs.Common.{arith}
use Rattle.std.proofs.lemmas.Bool.{eqb-true}
use Rattle.std.proofs.lemmas.List.{append-nil, length-append}
use Rattle.std.specs.Prelude.{◌==◌, slice_get, true}
use Rattle.at_ddp.specs.Outbox.{Posted}
use Rattle.at_world.specs.Sents.{SentDatagram, stamp, stamped}

pub length-stamped : (es : List ℕ) (ps : List Posted) → length es ≡ length ps → length (stamped es ps) ≡ length es
length-stamped [] ps fits = refl
length-stamped (e ∷ es) [] fits = absurd (omega arith)
length-stamped (e ∷ es) (p ∷ ps) fits = ap (λ n. suc n) (length-stamped es ps (omega arith))

-- how long a list of what is stamped is
pub length_in : (items : List SentDatagram) (es : List ℕ) (ps : List Posted) → stamped es ps ≡ items
    → length es ≡ length ps → length items ≡ length es
length_in items es ps is fits = ap (length {A = SentDatagram}) (sym is) ∙ length-stamped es ps fits

stamped_at : (es : List ℕ) (ps : List Posted) (i e : ℕ) (p : Posted) → slice_get es i ≡ Some e → slice_get ps i
    ≡ Some p →
    slice_get (stamped es ps) i ≡ Some (record { event = e; to = p.node; bytes = p.bytes })
stamped_at [] ps i e p here there = absurd (cc)
stamped_at (f ∷ es) [] i e p here there = absurd (cc)
stamped_at (f ∷ es) (q ∷ ps) zero e p here there =
    let event : f ≡ e = cc in
    let posted : q ≡ p = cc in
    rw event (ap (λ (r : Posted). Some (record { event = e; to = r.node; bytes = r.bytes })) posted)
stamped_at (f ∷ es) (q ∷ ps) (suc i) e p here there = stamped_at es ps i e p here there

-- what stands at an index of a list of what is stamped
pub stamped_in : (items : List SentDatagram) (es : List ℕ) (ps : List Posted) (i e to : ℕ) (bytes : List ℕ)
    → stamped es ps ≡ items → slice_get es i ≡ Some e →
    (p : Posted) × (slice_get ps i ≡ Some p) × (to ≡ p.node) → (p : Posted) × (slice_get ps i ≡ Some p)
    × (bytes ≡ p.bytes) →
    (s : SentDatagram) × (slice_get items i ≡ Some s) × (e ≡ s.event) × (to ≡ s.to) × (bytes ≡ s.bytes)
stamped_in items es ps i e to bytes is here node data_ =
    let same : data_.0 ≡ node.0 = let l : Some data_.0 ≡ Some node.0 = sym data_.1 ∙ node.1 in cc in (
      _,
      ap (λ l. slice_get l i) (sym is) ∙ stamped_at es ps i e node.0 here node.1,
      refl,
      node.2,
      data_.2
          ∙ ap (λ (p : Posted). p.bytes) same,
    )

-- ---- what an event sent, behind what was sent before

pub nothing_in : (out : List Posted) → (length out == 0) ≡ true → out ≡ []
nothing_in [] none = refl
nothing_in (p ∷ out) none = let e = eqb-true (length (p ∷ out)) 0 none in absurd (omega (arith, e))

-- an event that sent nothing
pub nothing_more : (items : List SentDatagram) (out : List Posted) (event : ℕ) → (length out == 0) ≡ true
    → items ≡ items ++ map (stamp event) out
nothing_more items out event none = rw (nothing_in out none) (sym (append-nil items))

length_replicate : (n event : ℕ) → length (replicate n event) ≡ n
length_replicate zero event = refl
length_replicate (suc n) event = ap (λ m. suc m) (length_replicate n event)

stamped_more : (es : List ℕ) (ps out : List Posted) (event : ℕ) → length es ≡ length ps
    → stamped (es ++ replicate (length out) event) (ps ++ out) ≡ stamped es ps ++ map (stamp event) out
stamped_more [] [] out event same = all out
  where
    all : (out : List Posted) → stamped (replicate (length out) event) out ≡ map (stamp event) out
    all [] = refl
    all (p ∷ out) = ap (λ l. stamp event p ∷ l) (all out)
stamped_more [] (p ∷ ps) out event same = absurd (omega arith)
stamped_more (e ∷ es) [] out event same = absurd (omega arith)
stamped_more (e ∷ es) (p ∷ ps) out event same = ap (λ l. stamp e p ∷ l) (stamped_more es ps out event (omega arith))

-- what a list holds that has the datagrams of an event at its end
pub more_stamped : (es es' : List ℕ) (ps ps' out : List Posted) (count event : ℕ) → length es ≡ length ps
    → ps' ≡ ps ++ out → count ≡ length out → es' ≡ es ++ replicate count event
    → (length es' ≡ length ps') × (stamped es' ps' ≡ stamped es ps ++ map (stamp event) out)
more_stamped es es' ps ps' out count event same list counted stamps = (
  omega (
    arith,
    ap (length {A = ℕ}) stamps,
    length-append es (replicate count event),
    length_replicate count event,
    ap (length {A = Posted}) list,
    length-append ps out,
  ),
  (λ j. stamped ((stamps ∙ ap (λ n. es ++ replicate n event) counted) j) (list j)) ∙ stamped_more es ps out event same,
)
