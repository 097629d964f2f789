-- Rules of blocks and options, at some bytes and at more: what is read of the first is read of both.
use Rattle.std.proofs.Common.{◌≡◌, inl, inr, ℕ, zero, suc, ◌+◌, ◌-◌, ◌*◌, ◌/◌, ◌%◌, ◌≤◌, ◌==◌, not, nat_lt, Bool}
use Rattle.std.proofs.Common.{true, false, List, ◌++◌, length, drop, refl, sym, ap, ◌∙◌, arith, Result, Ok, Err}
use Rattle.std.proofs.Common.{if◌then◌else◌, slice_index}
use Rattle.std.specs.Prelude.{Option, Some, None}
use Rattle.std.proofs.lemmas.Bool.{cases_lt, cond-false, cond-true, ltb-false}
use Rattle.std.proofs.lemmas.List.{drop-append-le, get_or_append_left, length-append}
use Rattle.at_pcap.specs.Blocks.{Setting, closed, follow}
use Rattle.at_pcap.specs.Blocks.{four_at, needs, option_in, options}
use Rattle.at_pcap.specs.Blocks.{passed_in, refuse, resolution_in, resolution_of}
use Rattle.at_pcap.specs.Blocks.{resolved}
use Rattle.at_pcap.specs.Blocks.{sized, two_at}
use Rattle.at_pcap.specs.Orders.{number_in}
use Rattle.at_pcap.specs.declared.interface.Resolution.{Resolution}
use Rattle.at_pcap.specs.declared.order.Order.{Order}
use Rattle.at_pcap.specs.declared.fault.CaptureFault.{CaptureFault}
use Rattle.at_pcap.specs.declared.fault.CaptureFault.TheVariants.{BadBlock, BadResolution, CutCapture}
use Rattle.at_pcap.proofs.RuleLemmas.{four_before, kept, needs_cut, needs_there, two_before}
use Rattle.at_pcap.proofs.RuleLemmas.{two_front}

-- the total length, with more behind it
pub same_total : (o : Order) (a more : List ℕ) → 8 ≤ length a → four_at o 4 a ≡ four_at o 4 (a ++ more)
same_total o a more long = sym (four_before o 4 a more (omega arith))

-- what is read here is read there
pub record Goes {A : Type 0} (here there : Result A CaptureFault) : Type 0 where
  pub goes : (v : A) → here ≡ Ok v → there ≡ Ok v

module _ {A : Type 0} where
  pub no_ok : (f : CaptureFault) (v : A) → ◌≡◌ {A = Result A CaptureFault} (Err f) (Ok v) → ⊥
  no_ok f v e = cc

  pub same : (x : Result A CaptureFault) → Goes x x
  same x = record { goes = λ v e. e }

  pub moved : (x y z : Result A CaptureFault) → y ≡ z → Goes x y → Goes x z
  moved x y z e g = record { goes = λ v h. sym e ∙ g.goes v h }

  pub failing : (f : CaptureFault) (y : Result A CaptureFault) → Goes (Err f) y
  failing f y = record { goes = λ v e. absurd (no_ok f v e) }

  okay : (v w : A) → v ≡ w → ◌≡◌ {A = Result A CaptureFault} (Ok v) (Ok w)
  okay v w e = λ i. Ok (e i)

  -- ---- rules, at some bytes and at more

  pub goes_by : (b c : Bool) (f : CaptureFault) (x y : Result A CaptureFault) → b ≡ c → (b ≡ false → Goes x y)
      → Goes (refuse b f x) (refuse c f y)
  goes_by true c f x y e g = failing f (refuse c f y)
  goes_by false c f x y e g = moved x y (refuse c f y) (sym (kept c f y (sym e))) (g refl)

  pub goes_if : (b c : Bool) (x y z w : Result A CaptureFault) → b ≡ c → Goes x z → Goes y w
      → Goes (if b then x else y) (if c then z else w)
  goes_if true c x y z w e g h = moved x z (if c then z else w) (sym (cond-true c z w (sym e))) g
  goes_if false c x y z w e g h = moved y w (if c then z else w) (sym (cond-false c z w (sym e))) h

  pub goes_needs : (n : ℕ) (a more : List ℕ) (x y : Result A CaptureFault) → (n ≤ length a → Goes x y)
      → Goes (needs n a x) (needs n (a ++ more) y)
  goes_needs n a more x y g = elim (cases_lt (length a) n) [
    | inl short ↦ record { goes = λ v e. absurd (no_ok CutCapture v (sym (needs_cut n a x short) ∙ e)) }
    | inr there ↦ record {
      goes = λ v e. needs_there n (a ++ more) y (omega (arith, length-append a more))
          ∙ (g there).goes v (sym (needs_there n a x there) ∙ e);
    }
  ]

  module _ (o : Order) (a more : List ℕ) (long : 8 ≤ length a) where
    pub goes_sized : (least : ℕ) (x y : Result A CaptureFault) → (least ≤ four_at o 4 a → Goes x y)
        → Goes (sized o least a x) (sized o least (a ++ more) y)
    goes_sized least x y g =
        let n = four_at o 4 a in
        let m = four_at o 4 (a ++ more) in
        goes_by (not (n % 4 == 0)) (not (m % 4 == 0)) BadBlock (refuse (nat_lt n least) BadBlock x)
        (refuse (nat_lt m least) BadBlock y) (ap (λ k. not (k % 4 == 0)) (same_total o a more long))
        (λ even. goes_by (nat_lt n least) (nat_lt m least) BadBlock x y
        (ap (λ k. nat_lt k least) (same_total o a more long)) (λ enough. g (ltb-false n least enough)))

    -- the same by the total length as a number
    abbrev closing : List ℕ → A → ℕ → Result A CaptureFault
    closing bytes whole n = needs n bytes (refuse (not (four_at o (n - 4) bytes == n)) BadBlock (Ok whole))

    pub goes_closed : (v w : A) → (four_at o 4 a ≤ length a → v ≡ w) → Goes (closed o a v) (closed o (a ++ more) w)
    goes_closed v w e =
        let n = four_at o 4 a in
        moved (closed o a v) (closing (a ++ more) w n) (closed o (a ++ more) w)
        (ap (closing (a ++ more) w) (same_total o a more long))
        (goes_needs n a more (refuse (not (four_at o (n - 4) a == n)) BadBlock (Ok v))
        (refuse (not (four_at o (n - 4) (a ++ more) == n)) BadBlock (Ok w))
        (λ fits. goes_by (not (four_at o (n - 4) a == n)) (not (four_at o (n - 4) (a ++ more) == n)) BadBlock (Ok v)
        (Ok w) (ap (λ k. not (k == n)) (sym (four_before o (n - 4) a more (omega arith))))
        (λ again. moved (Ok v) (Ok v) (Ok w) (okay v w (e fits)) (same (Ok v)))))

-- ---- options

module _ (o : Order) (a more : List ℕ) where
  goes_resolved : (r : Option Resolution) → Goes (resolved r a) (resolved r (a ++ more))
  goes_resolved None = failing BadResolution (resolved None (a ++ more))
  goes_resolved (Some r) = goes_needs 8 a more (Ok (Some (record { resolution = r; size = 8 }))) _ (λ there. same _)

  goes_resolution : 4 ≤ length a → Goes (resolution_in o a) (resolution_in o (a ++ more))
  unfolding resolution_in
  goes_resolution long =
      let said : List ℕ → Result (Option Setting) CaptureFault =
      λ bytes. resolved (resolution_of (slice_index bytes 4)) bytes in
      goes_by (not (two_at o 2 a == 1)) (not (two_at o 2 (a ++ more) == 1)) BadResolution (needs 5 a (said a))
      (needs 5 (a ++ more) (said (a ++ more))) (ap (λ k. not (k == 1)) (sym (two_before o 2 a more (omega arith))))
      (λ one. goes_needs 5 a more (said a) (said (a ++ more))
      (λ there. moved (said a) (resolved (resolution_of (slice_index a 4)) (a ++ more)) (said (a ++ more))
      (ap (λ v. resolved (resolution_of v) (a ++ more)) (sym (get_or_append_left a more 0 4 (omega arith))))
      (goes_resolved (resolution_of (slice_index a 4)))))

  -- any other value, by its length
  abbrev passing : Resolution → List ℕ → ℕ → Result (Option Setting) CaptureFault
  passing r bytes n =
      needs (4 + (n + 3) / 4 * 4) bytes (Ok (Some (record { resolution = r; size = 4 + (n + 3) / 4 * 4 })))

  goes_passed : (r : Resolution) → 4 ≤ length a → Goes (passed_in o r a) (passed_in o r (a ++ more))
  unfolding passed_in
  goes_passed r long =
      let n = two_at o 2 a in
      moved (passed_in o r a) (passing r (a ++ more) n) (passed_in o r (a ++ more))
      (ap (passing r (a ++ more)) (sym (two_before o 2 a more (omega arith))))
      (goes_needs (4 + (n + 3) / 4 * 4) a more _ _ (λ there. same _))

  -- behind the code of an option
  abbrev coded : ℕ → Resolution → List ℕ → Result (Option Setting) CaptureFault
  coded left r bytes =
      if number_in o 2 bytes == 0 then Ok None else
      (refuse (nat_lt left (4 + two_at o 2 bytes)) BadResolution
      (if number_in o 2 bytes == 9 then resolution_in o bytes else passed_in o r bytes))

  goes_option : (left : ℕ) (r : Resolution) → Goes (option_in o left r a) (option_in o left r (a ++ more))
  unfolding option_in
  goes_option left r = goes_needs 4 a more (coded left r a) (coded left r (a ++ more)) (λ there.
      let code : number_in o 2 a ≡ number_in o 2 (a ++ more) = sym (two_front o a more (omega arith)) in
      let len : two_at o 2 a ≡ two_at o 2 (a ++ more) = sym (two_before o 2 a more (omega arith)) in
      goes_if (number_in o 2 a == 0) (number_in o 2 (a ++ more) == 0) (Ok None) _ (Ok None) _
      (ap (λ k. k == 0) code) (same (Ok None))
      (goes_by (nat_lt left (4 + two_at o 2 a)) (nat_lt left (4 + two_at o 2 (a ++ more))) BadResolution _ _
      (ap (λ k. nat_lt left (4 + k)) len)
      (λ room. goes_if (number_in o 2 a == 9) (number_in o 2 (a ++ more) == 9) (resolution_in o a) (passed_in o r a)
      (resolution_in o (a ++ more)) (passed_in o r (a ++ more)) (ap (λ k. k == 9) code) (goes_resolution there)
      (goes_passed r there))))

-- what is read of an option is no more than there is
record Fits (a : List ℕ) (x : Result (Option Setting) CaptureFault) : Type 0 where
  fits : (s : Setting) → x ≡ Ok (Some s) → s.size ≤ length a

none_some : (s : Setting) → ◌≡◌ {A = Result (Option Setting) CaptureFault} (Ok None) (Ok (Some s)) → ⊥
none_some s e = cc

same_setting : (s t : Setting) → ◌≡◌ {A = Result (Option Setting) CaptureFault} (Ok (Some s)) (Ok (Some t)) → s ≡ t
same_setting s t e = cc

module _ (a : List ℕ) where
  fits_not : (f : CaptureFault) → Fits a (Err f)
  fits_not f = record { fits = λ s e. absurd (no_ok f (Some s) e) }

  fits_by : (b : Bool) (f : CaptureFault) (x : Result (Option Setting) CaptureFault) → Fits a x
      → Fits a (refuse b f x)
  fits_by true f x h = fits_not f
  fits_by false f x h = h

  fits_if : (b : Bool) (x y : Result (Option Setting) CaptureFault) → Fits a x → Fits a y
      → Fits a (if b then x else y)
  fits_if true x y g h = g
  fits_if false x y g h = h

  fits_needs : (n : ℕ) (x : Result (Option Setting) CaptureFault) → (n ≤ length a → Fits a x) → Fits a (needs n a x)
  fits_needs n x h = elim (cases_lt (length a) n) [
    | inl short ↦ record { fits = λ s e. absurd (no_ok CutCapture (Some s) (sym (needs_cut n a x short) ∙ e)) }
    | inr there ↦ record { fits = λ s e. (h there).fits s (sym (needs_there n a x there) ∙ e) }
  ]

  fits_none : Fits a (Ok None)
  fits_none = record { fits = λ s e. absurd (none_some s e) }

  of_size : (r : Resolution) (n : ℕ) → n ≤ length a → Fits a (Ok (Some (record { resolution = r; size = n })))
  of_size r n there = record {
    fits = λ s e.
        let size : n ≡ s.size =
        ap (λ (u : Setting). u.size) (same_setting (record { resolution = r; size = n }) s e) in
        omega arith;
  }

  fits_resolved : (r : Option Resolution) → Fits a (resolved r a)
  fits_resolved None = fits_not BadResolution
  fits_resolved (Some r) = fits_needs 8 _ (λ there. of_size r 8 there)

  fits_resolution : (o : Order) → Fits a (resolution_in o a)
  unfolding resolution_in
  fits_resolution o = fits_by (not (two_at o 2 a == 1)) BadResolution _
      (fits_needs 5 _ (λ there. fits_resolved (resolution_of (slice_index a 4))))

  fits_passed : (o : Order) (r : Resolution) → Fits a (passed_in o r a)
  unfolding passed_in
  fits_passed o r = fits_needs (4 + (two_at o 2 a + 3) / 4 * 4) _
      (λ there. of_size r (4 + (two_at o 2 a + 3) / 4 * 4) there)

  fits_option : (o : Order) (left : ℕ) (r : Resolution) → Fits a (option_in o left r a)
  unfolding option_in
  fits_option o left r = fits_needs 4 _ (λ there. fits_if (number_in o 2 a == 0) (Ok None) _ fits_none
      (fits_by (nat_lt left (4 + two_at o 2 a)) BadResolution _
      (fits_if (number_in o 2 a == 9) (resolution_in o a) (passed_in o r a) (fits_resolution o) (fits_passed o r))))

goes_follow : (x y : Result (Option Setting) CaptureFault) (r : Resolution)
    (f g : Setting → Result Resolution CaptureFault) → Goes x y → ((s : Setting) → x ≡ Ok (Some s) → Goes (f s) (g s))
    → Goes (follow x r f) (follow y r g)
goes_follow (Err e) y r f g h k = failing e (follow y r g)
goes_follow (Ok None) y r f g h k =
    moved (Ok r) (Ok r) (follow y r g) (sym (ap (λ w. follow w r g) (h.goes None refl))) (same (Ok r))
goes_follow (Ok (Some s)) y r f g h k =
    moved (f s) (g s) (follow y r g) (sym (ap (λ w. follow w r g) (h.goes (Some s) refl))) (k s refl)

pub goes_options : (k : ℕ) (o : Order) (left : ℕ) (r : Resolution) (a more : List ℕ)
    → Goes (options k o left r a) (options k o left r (a ++ more))
unfolding options
goes_options zero o left r a more = same (Ok r)
goes_options (suc k) o left r a more =
    let next : List ℕ → Setting → Result Resolution CaptureFault =
    λ bytes s. options k o (left - s.size) s.resolution (drop s.size bytes) in
    goes_if (left == 0) (left == 0) (Ok r) (follow (option_in o left r a) r (next a)) (Ok r)
    (follow (option_in o left r (a ++ more)) r (next (a ++ more))) refl (same (Ok r))
    (goes_follow (option_in o left r a) (option_in o left r (a ++ more)) r (next a) (next (a ++ more))
    (goes_option o a more left r)
    (λ s is. moved (next a s) (options k o (left - s.size) s.resolution (drop s.size a ++ more)) (next (a ++ more) s)
    (ap (options k o (left - s.size) s.resolution)
    (sym (drop-append-le s.size a more ((fits_option a o left r).fits s is))))
    (goes_options k o (left - s.size) s.resolution (drop s.size a) more)))
