use Rattle.std.proofs.Common.{arith}
use Rattle.at_words.specs.Texts.{IsZoneName}
use Rattle.at_words.specs.Words.{words_of}
use Rattle.at_setup_lines.proofs.DraftLemmas.{none_read, refused, some_read}
use Rattle.at_setup_lines.proofs.TableLemmas.{IsNoTable, more_fit, next_said, no_name, too_many}
use Rattle.at_setup_lines.proofs.table.table_of.Goals as goal

pub returns-in_err-name-clause-only : goal.returns-in_err-name-clause-only
returns-in_err-name-clause-only g c =
    let words = words_of c.args.words.rest.now in
    let old = words_of c.loop-word.word-iterator.rest.now in
    let w = c.in-Some.word.now in
    let none = none_read (IsZoneName w) c.zone_name.result _ _ c.in_err-name.ensures.value c.zone_name.ensures in
    refused c.from_residual.result (IsNoTable words)
    (λ all h _. no_name words old (words_of c.next.new.self.rest.now) c.loop-word.names.items w
    c.loop-word.invariant.said c.in-Some.ensures.steps none all h)

pub returns-then-len-ge-MAX_ZONES-clause-only : goal.returns-then-len-ge-MAX_ZONES-clause-only
returns-then-len-ge-MAX_ZONES-clause-only g c = λ _ all h.
    let words = words_of c.args.words.rest.now in
    let old = words_of c.loop-word.word-iterator.rest.now in
    let len = c.len.ensures in
    let full = c.if-len-ge-MAX_ZONES.true in
    too_many words old (words_of c.next.new.self.rest.now) c.loop-word.names.items c.in-Some.word.now
    c.loop-word.invariant.said c.in-Some.ensures.steps (omega (arith, len, full)) all h

pub loop-word-preserved : goal.loop-word-preserved
loop-word-preserved g c =
    let words = words_of c.args.words.rest.now in
    let old = words_of c.loop-word.word-iterator.rest.now in
    let w = c.in-Some.word.now in
    let named = some_read (IsZoneName w) c.zone_name.result _ c.in_ok-name.name c.in_ok-name.ensures.value
    c.zone_name.ensures in
    let len = c.len.ensures in
    let room = c.if-len-ge-MAX_ZONES.false in
    record {
      said = next_said words old (words_of c.next.new.self.rest.now) c.loop-word.names.items c.push.new.self.items w
          c.in_ok-name.name c.loop-word.invariant.said c.in-Some.ensures.steps named c.in_ok-push.ensures.items;
      fits = more_fit c.loop-word.names.items c.push.new.self.items c.in_ok-name.name c.in_ok-push.ensures.items
          (omega (arith, len, room));
    }
