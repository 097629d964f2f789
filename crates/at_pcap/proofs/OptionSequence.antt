-- The options of an interface, one behind the other.
use Rattle.std.proofs.Common.{◌≡◌, ℕ, ◌+◌, ◌-◌, ◌<◌, ◌≤◌, zero, suc, List, [], ◌++◌, length, drop, refl, ap, ◌∙◌, arith}
use Rattle.std.proofs.Common.{append_assoc, Ok, ◌==◌}
use Rattle.std.specs.Prelude.{Option, Some, None}
use Rattle.std.specs.Io.KnownBytes.{Consumes}
use Rattle.std.proofs.KnownBytes.{Consumes-trans}
use Rattle.std.proofs.lemmas.Bool.{cond-false, ne_eqb}
use Rattle.std.proofs.lemmas.List.{drop_at, length-append}
use Rattle.at_pcap.specs.Blocks.{Setting, option_in, options, follow}
use Rattle.at_pcap.specs.OptionSteps.{AreOptions}
use Rattle.at_pcap.specs.Steps.{IsPart, TellsBreak}
use Rattle.at_pcap.specs.declared.interface.Resolution.{Resolution}
use Rattle.at_pcap.specs.declared.interface.Resolution.TheVariants.{Decimal}
use Rattle.at_pcap.specs.declared.order.Order.{Order}
use Rattle.at_pcap.specs.declared.fault.ReadError.{ReadError}
use Rattle.at_pcap.proofs.RuleLemmas.{break_within}

le_zero : (n : ℕ) → n ≤ 0 → n ≡ 0
le_zero n h = omega arith

pred_of : (n : ℕ) → 0 < n → (k : ℕ) × (n ≡ suc k)
pred_of zero h = absurd (omega arith)
pred_of (suc k) h = (k, refl)

next_of : (k : ℕ) (o : Order) (left : ℕ) (r : Resolution) (bytes : List ℕ) → 0 < left
    → options (suc k) o left r bytes
    ≡ follow (option_in o left r bytes) r (λ s. options k o (left - s.size) s.resolution (drop s.size bytes))
unfolding options
next_of k o left r bytes some = cond-false (left == 0) (Ok r) _ (ne_eqb left 0 (omega arith))

pub none_left : (more : ℕ) (o : Order) (r : Resolution) (bytes : List ℕ) → options more o 0 r bytes ≡ Ok r
unfolding options
none_left zero o r bytes = refl
none_left (suc k) o r bytes = refl

-- some options were read of so many bytes, and as many are left
pub record HasOptions (count : ℕ) (o : Order) (known now : Option (List ℕ)) (left : ℕ) (r : Resolution) : Type 0 where
  pub bytes : List ℕ
  pub more : ℕ
  pub len : length bytes + left ≡ count
  pub enough : left ≤ more
  pub read : Consumes known now bytes
  pub is : (rest : List ℕ) → options count o count (Decimal 6) (bytes ++ rest) ≡ options more o left r rest

module _ (count : ℕ) (o : Order) (known now : Option (List ℕ)) (left : ℕ) (r : Resolution)
    (has : HasOptions count o known now left r) where
  pub options_done : left ≤ 0 → AreOptions o count known now r 0
  options_done none =
      let len = has.len in
      record {
        bytes = has.bytes;
        read = has.read;
        len = omega arith;
        is = λ rest. has.is rest ∙ ap (λ n. options has.more o n r rest) (le_zero left none)
            ∙ none_left has.more o r rest;
      }

  module _ (some : 0 < left) where
    stepped : (rest : List ℕ) → (k : ℕ) × (has.more ≡ suc k) × (options count o count (Decimal 6) (has.bytes ++ rest)
        ≡ follow (option_in o left r rest) r (λ s. options k o (left - s.size) s.resolution (drop s.size rest)))
    stepped rest =
        let enough = has.enough in
        let p = pred_of has.more (omega arith) in (
          p.0,
          p.1,
          has.is rest ∙ ap (λ n. options n o left r rest) p.1 ∙ next_of p.0 o left r rest some,
        )

    pub options_broken : (e : ReadError) → TellsBreak (option_in o left r) now [] e
        → TellsBreak (options count o count (Decimal 6)) known [] e
    options_broken e tells =
        break_within (options count o count (Decimal 6)) (option_in o left r) known now [] has.bytes e has.read
        (λ rest fault wrong. (stepped rest).2
        ∙ ap (λ w. follow w r (λ s. options (stepped rest).0 o (left - s.size) s.resolution (drop s.size rest))) wrong)
        tells

    module _ (last : Option (List ℕ)) where
      pub options_ended : (four : 4 ≤ left) → IsPart (option_in o left r) now last [] 4 None
          → AreOptions o count known last r (left - 4)
      options_ended four part =
          let len = has.len in
          let size = part.len in
          record {
            bytes = has.bytes ++ part.bytes;
            read = Consumes-trans known now last has.bytes part.bytes has.read part.read;
            len = omega (arith, length-append has.bytes part.bytes);
            is = λ rest. ap (options count o count (Decimal 6)) (append_assoc has.bytes part.bytes rest)
                ∙ (stepped (part.bytes ++ rest)).2
                ∙ ap (λ w. follow w r (λ s. options (stepped (part.bytes ++ rest)).0 o (left - s.size) s.resolution
                (drop s.size (part.bytes ++ rest)))) (part.is rest);
          }

      pub options_next : (s : Setting) → s.size ≤ left → 4 ≤ s.size
          → IsPart (option_in o left r) now last [] s.size (Some s)
          → HasOptions count o known last (left - s.size) s.resolution
      options_next s fits least part =
          let len = has.len in
          let enough = has.enough in
          let size = part.len in
          let p = pred_of has.more (omega arith) in
          let p_is = p.1 in
          record {
            bytes = has.bytes ++ part.bytes;
            more = p.0;
            len = omega (arith, length-append has.bytes part.bytes);
            enough = omega arith;
            read = Consumes-trans known now last has.bytes part.bytes has.read part.read;
            is = λ rest. ap (options count o count (Decimal 6)) (append_assoc has.bytes part.bytes rest)
                ∙ has.is (part.bytes ++ rest) ∙ ap (λ n. options n o left r (part.bytes ++ rest)) p.1
                ∙ next_of p.0 o left r (part.bytes ++ rest) some
                ∙ ap (λ w. follow w r (λ t. options p.0 o (left - t.size) t.resolution
                (drop t.size (part.bytes ++ rest)))) (part.is rest)
                ∙ ap (options p.0 o (left - s.size) s.resolution) (drop_at part.bytes rest s.size (omega arith));
          }
