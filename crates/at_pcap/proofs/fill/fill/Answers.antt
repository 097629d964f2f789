use Rattle.std.proofs.Common.{◌-◌, length, take, sym, ap, ◌∙◌, subst, le_refl, rules}
use Rattle.std.specs.Io.KnownBytes.{Consumes}
use Rattle.std.proofs.KnownBytes.{Consumes-trans, Consumes-kept}
use Rattle.std.proofs.lemmas.Slice.{take-put_mid_below}
use borrow.Rule.Slice.PartMut.{put_mid}
use Rattle.at_pcap.proofs.FrontLemmas.{front_of}
use Rattle.at_pcap.proofs.fill.fill.Goals as goal
use Rattle.at_pcap.proofs.fill.fill.Goals.{in-Ok, in-Err}

pub loop-preserved : goal.loop-preserved
loop-preserved g c =
    let a = c.loop.len in
    let before = c.loop.invariant in
    elim c.match-read.branch [
      | in-Ok w ↦ record {
        bound = search rules;
        taken = subst (Consumes _ _)
            (sym (ap (λ m. take m (put_mid a (length c.loop.buffer - a) c.loop.buffer c.read.new.buf)) w.len-is
            ∙ front_of a (length c.loop.buffer - a) w.in-Ok.count c.loop.buffer c.read.new.buf before.bound
            w.in-Ok.ensures.bound.0))
            (Consumes-trans _ _ _ _ _ before.taken w.in-Ok.ensures.bytes.0);
      }
      | in-Err w ↦ record {
        bound = search rules;
        taken = subst (Consumes _ _)
            (sym (ap (λ m. take m (put_mid a (length c.loop.buffer - a) c.loop.buffer c.read.new.buf)) w.len-is
            ∙ take-put_mid_below a (length c.loop.buffer - a) c.loop.buffer c.read.new.buf a
            (le_refl _) before.bound))
            (Consumes-kept _ _ _ _ before.taken w.in-Err.ensures.bytes);
      }
    ]
