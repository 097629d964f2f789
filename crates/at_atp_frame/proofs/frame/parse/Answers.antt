use Rattle.std.proofs.lemmas.Grind.{common_steps}
use Rattle.std.proofs.Common.{◌≡◌, ◌≤◌, get_or, sym, ap, ◌∙◌, subst, arith}
use Rattle.at_ddp.proofs.Octets.{InBytes, number_in}
use Rattle.at_atp_frame.specs.Frames.{Release, content, Spells}
use Rattle.at_atp_frame.specs.Reading.{tid_in}
use Rattle.at_atp_frame.proofs.FrameLemmas.{function_bits, request_is_spelled, response_is_spelled, release_is_spelled}
use Rattle.at_atp_frame.proofs.frame.parse.Goals as goal
use Rattle.at_atp_frame.proofs.frame.parse.Goals.{in-64, in-128, in_default}
use Rattle.at_atp_frame.proofs.frame.parse.Goals.{else-function-via-then-function+else-input-gt-LAST}
use Rattle.at_atp_frame.proofs.frame.parse.Goals.{else-function-via-else-function}

pub returns-clause-found : goal.returns-clause-found
returns-clause-found c =
    let input = c.args.input.now in
    let are_bytes : InBytes c.args.input.now = λ i. omega (arith, c.type_inv.input i) in
    let function = function_bits (get_or c.args.input.now 0 0) (are_bytes 0) in
    elim c.match-function.branch [
      | in-64 w ↦ subst (Spells c.args.input.now) (sym (ap content w.result-is ∙ w.request_in.ensures))
          (request_is_spelled c.args.input.now are_bytes (omega arith) (omega arith) (omega (arith, function)))
      | in-128 w ↦
          let place : get_or c.args.input.now 1 0 ≤ 7 = elim c.else-function.branch [
            | else-function-via-then-function+else-input-gt-LAST v ↦ omega arith
            | else-function-via-else-function v ↦ absurd (omega (arith, function))
          ] in
          subst (Spells c.args.input.now) (sym (ap content w.result-is ∙ w.response_in.ensures))
          (response_is_spelled c.args.input.now are_bytes (omega arith) (omega arith)
          (omega (arith, function)) place)
      | in_default w ↦
          let tid : w.read_u16.result
          ≡ tid_in c.args.input.now = number_in 2 c.args.input.now w.read_u16.result w.read_u16.ensures in
          subst (Spells c.args.input.now) (sym (ap content w.result-is ∙ ap Release tid))
          (release_is_spelled c.args.input.now are_bytes (omega arith) (omega arith) (omega (arith, function)))
    ]

pub returns-then-input-clause-fault : goal.returns-then-input-clause-fault
returns-then-input-clause-fault c = grind (arith, common_steps)
