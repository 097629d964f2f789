use Rattle.std.proofs.Common.{◌≡◌, ◌++◌, Ok, ap, sym, ◌∙◌, take, arith, length-append}
use Rattle.std.proofs.Common.{length-take-le}
use Rattle.std.proofs.KnownBytes.{Consumes-trans}
use Rattle.std.proofs.lemmas.List.{take_all}
use Rattle.at_pcap.proofs.RecordLemmas.{all_of, ended}
use Rattle.at_pcap.proofs.RuleLemmas.{again_in, any_rest, last_in}
use Rattle.at_pcap.proofs.passing.close.Goals as goal

pub returns-then-len-lt4-clause-fault : goal.returns-then-len-lt4-clause-fault
returns-then-len-lt4-clause-fault g c =
    let whole = c.in_ok-pass_over.ensures.whole (ap Ok c.if-not-branch.false) in
    let read = c.in_ok-len.ensures in
    let n = c.in_ok-len.len in
    let short = c.if-len-lt4.true in
    let size = c.fill.auto.buffer in
    let again = take n c.fill.new.buffer in
    let passed = whole.1 in (
      whole.0 ++ again,
      all_of (g.R.Read.remaining c.args.reader.now) _ whole.0 again whole.2
          (ended _ _ again read.bytes (read.end (omega (arith, size, short)))),
      omega (arith, length-append whole.0 again, length-take-le n c.fill.new.buffer read.bound, passed, short),
    )

pub returns-then-read_u32-total-clause-fault : goal.returns-then-read_u32-total-clause-fault
returns-then-read_u32-total-clause-fault g c =
    let whole = c.in_ok-pass_over.ensures.whole (ap Ok c.if-not-branch.false) in
    let read = c.in_ok-len.ensures in
    let n = c.in_ok-len.len in
    let size = c.fill.auto.buffer in
    let there = c.if-len-lt4.false in
    let again = take n c.fill.new.buffer in
    let passed = whole.1 in
    let rest = any_rest _ in
    let same : again ≡ c.fill.new.buffer = take_all n c.fill.new.buffer (omega (arith, size, there)) in (
      whole.0 ++ (again ++ rest.0),
      all_of (g.R.Read.remaining c.args.reader.now) _ whole.0 (again ++ rest.0) whole.2
          (all_of _ _ again rest.0 read.bytes rest.1),
      (
        omega (
          arith,
          length-append whole.0 (again ++ rest.0),
          length-append again rest.0,
          length-take-le n c.fill.new.buffer read.bound,
          passed,
          there,
        ),
        λ e. c.if-read_u32-total.true (c.read_u32.ensures
            ∙ sym (again_in c.args.order whole.0 again rest.0 c.fill.new.buffer _ passed same (omega (arith, size)))
            ∙ e),
      ),
    )

pub returns-clause-closed : goal.returns-clause-closed
returns-clause-closed g c =
    let whole = c.in_ok-pass_over.ensures.whole (ap Ok c.if-not-branch.false) in
    let read = c.in_ok-len.ensures in
    let n = c.in_ok-len.len in
    let size = c.fill.auto.buffer in
    let there = c.if-len-lt4.false in
    let again = take n c.fill.new.buffer in
    let passed = whole.1 in
    let same : again ≡ c.fill.new.buffer = take_all n c.fill.new.buffer (omega (arith, size, there)) in (
      whole.0 ++ again,
      record {
        len = omega (
          arith,
          length-append whole.0 again,
          length-take-le n c.fill.new.buffer read.bound,
          passed,
          there,
          size,
          read.bound,
        );
        again = last_in c.args.order whole.0 again c.fill.new.buffer _ passed same
            ∙ sym c.read_u32.ensures ∙ c.if-read_u32-total.false;
      },
      Consumes-trans _ _ _ whole.0 again whole.2 read.bytes,
    )
