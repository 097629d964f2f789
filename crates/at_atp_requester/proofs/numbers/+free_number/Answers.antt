use Rattle.std.proofs.Common.{true, false, sym, ◌∙◌, ◌+◌, ◌%◌}
use Rattle.at_ddp.proofs.NumberLemmas.{first_free-step}
use Rattle.at_atp_requester.specs.Requests.{has_number}
use Rattle.at_atp_requester.specs.Standing.{left_open}
use Rattle.at_atp_requester.proofs.numbers.+free_number.Goals as goal

pub returns-then-is_open : goal.returns-then-is_open
returns-then-is_open g t c = c.free_number.ensures
    ∙ sym (first_free-step (λ n. (n + 1) % 65536) (has_number (left_open c.args.standing.now.items c.args.closed))
    c.args.tries c.args.first true c.if-tries-eq0.false (sym c.is_open.ensures ∙ c.if-is_open.true))

pub returns-else-is_open : goal.returns-else-is_open
returns-else-is_open g t c =
    sym (first_free-step (λ n. (n + 1) % 65536) (has_number (left_open c.args.standing.now.items c.args.closed))
    c.args.tries c.args.first false c.if-tries-eq0.false (sym c.is_open.ensures ∙ c.if-is_open.false))
