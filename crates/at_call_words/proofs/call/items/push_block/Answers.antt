use Rattle.std.proofs.Common.{append-nil, arith, Err, ℕ, length-take, refl, sym}
use Rattle.hex.proofs.HexLemmas.{decode_of-ok}
use Rattle.at_call_words.proofs.ItemLemmas.{each_byte, one_more}
use Rattle.at_call_words.proofs.WordLemmas.{unlawful_told}
use Rattle.at_call_words.proofs.call.items.push_block.Goals as goal

pub returns-then-not-put_bytes-clause-only : goal.returns-then-not-put_bytes-clause-only
returns-then-not-put_bytes-clause-only g c =
    unlawful_told {T = Unit {0}} _ (Err c.broken.result) c.broken.result refl (λ bytes decoded.
    let (even, each, twice, are) = decode_of-ok c.args.digits.now bytes decoded in
    c.put_bytes.ensures.only c.if-not-put_bytes.true bytes
    (omega (arith, twice, c.requires, length-take {A = ℕ})) decoded)

pub loop-byte-init : goal.loop-byte-init
loop-byte-init g c = sym (append-nil c.args.items.now.items)

pub loop-byte-preserved : goal.loop-byte-preserved
loop-byte-preserved g c =
    one_more c.args.items.now.items c.loop-byte.items.items c.push.new.self.items c.put_bytes.new.room
    c.loop-byte.byte-index _ c.loop-byte-test.true refl c.loop-byte.invariant c.in_ok-push.ensures.items

pub returns-clause-said : goal.returns-clause-said
returns-clause-said g c =
    each_byte c.args.digits.now c.args.items.now.items c.loop-byte.items.items c.put_bytes.new.room
    c.loop-byte.byte-index (c.put_bytes.ensures.spelled c.if-not-put_bytes.false) c.loop-byte-test.false
    c.loop-byte.invariant
