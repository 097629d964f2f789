use Rattle.std.proofs.Common.{subst}
use Rattle.memchr.specs.Find.{IsFirstByte}
use Rattle.at_schedule.proofs.CutLemmas.{cut_at, is_feed, uncut}
use Rattle.at_schedule.proofs.cutting.cut_line.Goals as goal

pub returns-in-Some-clause-cut : goal.returns-in-Some-clause-cut
returns-in-Some-clause-cut c = cut_at c.args.text.now c.in-Some.end
    (subst (IsFirstByte is_feed c.args.text.now) c.in-Some.is c.end_of_line.ensures.first)

pub returns-in-None-clause-cut : goal.returns-in-None-clause-cut
returns-in-None-clause-cut c = uncut c.args.text.now c.requires
    (subst (IsFirstByte is_feed c.args.text.now) c.in-None.is c.end_of_line.ensures.first)
