use Rattle.std.proofs.Common.{refl, ◌≡◌, arith}
use Rattle.std.specs.List.{prefix_len}
use Rattle.std.proofs.lemmas.List.Sums.{prefix_len-le-length}
use Rattle.at_words.specs.Words.{is_no_space, is_space}
use Rattle.at_words.proofs.WordLemmas.{first_at}
use Rattle.at_words.proofs.word.spaces.Goals as goal

pub returns : goal.returns
returns c =
    let first = first_at is_space is_no_space (λ c. refl) c.args.text.now in
    let value : c.unwrap_or.result ≡ prefix_len is_space c.args.text.now = cc in
    record {
      value = value;
      within = omega (arith, value, prefix_len-le-length is_space c.args.text.now);
    }
