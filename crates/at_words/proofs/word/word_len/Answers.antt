use Rattle.std.proofs.Common.{◌≡◌, ◌==◌, arith}
use Rattle.std.specs.List.{prefix_len}
use Rattle.std.proofs.lemmas.List.Sums.{prefix_len-le-length}
use Rattle.at_words.specs.Words.{is_no_space, is_space}
use Rattle.at_words.proofs.WordLemmas.{first_at, not_not}
use Rattle.at_words.proofs.word.word_len.Goals as goal

pub returns : goal.returns
returns c =
    let first = first_at is_no_space is_space (λ c. not_not (c == 32)) c.args.text.now in
    let value : c.unwrap_or.result ≡ prefix_len is_no_space c.args.text.now = cc in
    record {
      value = value;
      within = omega (arith, value, prefix_len-le-length is_no_space c.args.text.now);
    }
