use Rattle.at_patterns.proofs.WildcardLemmas.{plain as plain_text, wild as wild_text}
use Rattle.at_patterns.proofs.laws.a_wildcard_stands_for_any_bytes.Goals as goal

pub returns-clause-wild : goal.returns-clause-wild
returns-clause-wild c = wild_text

pub returns-clause-plain : goal.returns-clause-plain
returns-clause-plain c = plain_text
