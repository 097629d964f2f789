use Rattle.std.proofs.Common.{List, ℕ, Result, Ok, Err, ◌≡◌}
use Rattle.std.specs.Prelude.{IfOk, IfErr, IsOkAnd}
use Rattle.at_atp_frame.proofs.SpellingLemmas.{one_packet}
use Rattle.at_atp_frame.specs.declared.frame.Frame.{Frame}
use Rattle.at_atp_frame.specs.declared.fault.AtpFault.{AtpFault}
use Rattle.at_atp_frame.specs.Frames.{Content, content, Spells}
use Rattle.at_atp_frame.specs.Fault.{IsFirstFault}
use Rattle.at_atp_frame.proofs.FrameLemmas.{no_fault}
use Rattle.at_atp_frame.proofs.frame.decode.Goals as goal

-- what is spelled there is not refused, and is not another packet
only : (input : List ℕ) (r : Result Frame AtpFault) → IfOk r (λ f. Spells input (content f))
    → IfErr r (λ fault. IsFirstFault fault input) →
    (f : Content) → Spells input f → IsOkAnd r (λ g. content g ≡ f)
only input (Ok x) found fault f spelled = one_packet input (content x) f found spelled
only input (Err e) found fault f spelled = absurd (no_fault input f spelled e fault.stands)

pub returns-clause-only : goal.returns-clause-only
returns-clause-only c = only c.args.input.now c.parse.result c.parse.ensures.found c.parse.ensures.fault
