use Rattle.at_call_words.proofs.PacketLemmas.{no_colon, no_user, other_colon, packet_parts, too_short}
use Rattle.at_call_words.proofs.call.answers.packet_words.Goals as goal

pub returns-in_err-user-clause-only : goal.returns-in_err-user-clause-only
returns-in_err-user-clause-only c none user front bytes is spells =
    too_short c.args.word.now front user bytes c.in_err-user.ensures.cases is spells

pub returns-in_err-colon-clause-only : goal.returns-in_err-colon-clause-only
returns-in_err-colon-clause-only c none user front bytes is spells =
    no_colon c.args.word.now c.in_ok-user.rest.now front user bytes c.in_ok-user.ensures.cases.2 is spells
    c.in_err-colon.ensures.cases

pub returns-in_err-user_of-clause-only : goal.returns-in_err-user_of-clause-only
returns-in_err-user_of-clause-only c none user front bytes is spells =
    no_user c.args.word.now c.in_ok-user.user.now front user bytes c.in_ok-user.ensures.cases.1 is spells
    c.in_err-user_of.ensures

pub returns-in_ok-user_of-clause-said : goal.returns-in_ok-user_of-clause-said
returns-in_ok-user_of-clause-said c = (
  c.in_ok-user.user.now,
  packet_parts c.args.word.now c.in_ok-user.user.now c.in_ok-user.rest.now
      c.in_ok-colon.data_.now c.in_ok-colon.colon.now c.in_ok-user.ensures.cases.1 c.in_ok-user.ensures.cases.2
      c.in_ok-colon.ensures.cases.0 c.if-colon-eq58.true,
  c.in_ok-user_of.ensures,
)

pub returns-else-colon-eq58-clause-only : goal.returns-else-colon-eq58-clause-only
returns-else-colon-eq58-clause-only c none user front bytes is spells =
    c.if-colon-eq58.false (other_colon c.args.word.now c.in_ok-user.rest.now c.in_ok-colon.data_.now front user bytes
    c.in_ok-colon.colon.now c.in_ok-user.ensures.cases.2 c.in_ok-colon.ensures.cases.0 is spells)
