use Rattle.std.proofs.Common.{List, ℕ, Result, Ok, Err, ◌≡◌}
use Rattle.std.specs.Prelude.{IfOk, IfErr, IsOkAnd}
use Rattle.at_adsp_frame.proofs.SpellingLemmas.{no_fault}
use Rattle.at_adsp_frame.specs.declared.segment.Segment.{Segment}
use Rattle.at_adsp_frame.specs.declared.fault.AdspFault.{AdspFault}
use Rattle.at_adsp_frame.specs.Fault.{IsFirstFault}
use Rattle.at_adsp_frame.specs.Segments.{Content, content, Spells}
use Rattle.at_adsp_frame.proofs.SegmentLemmas.{one_segment}
use Rattle.at_adsp_frame.proofs.reading.decode.Goals as goal

-- what is spelled there is not refused, and is not another segment
only : (input : List ℕ) (r : Result Segment AdspFault) → IfOk r (λ s. Spells input (content s))
    → IfErr r (λ fault. IsFirstFault fault input) → (s : Content) → Spells input s → IsOkAnd r (λ t. content t ≡ s)
only input (Ok x) found fault s spelled = one_segment input (content x) s found spelled
only input (Err e) found fault s spelled = absurd (no_fault input s spelled e fault)

pub returns-clause-only : goal.returns-clause-only
returns-clause-only c = only c.args.input.now c.parse.result c.parse.ensures.found c.parse.ensures.fault
