use Rattle.std.proofs.Common.{◌≤◌, length}
use Rattle.at_words.specs.Words.{words_of}
use Rattle.at_setup_lines.proofs.TableLemmas.{SaidSoFar}
use Rattle.at_setup_lines.proofs.table.table_of.Given as goal

abbrev pub invariant-loop-word : goal.invariant-loop-word
invariant-loop-word g l = record {
  said : SaidSoFar (words_of l.fn.words.rest.now) (words_of l.word-iterator.rest.now) l.names.items;
  fits : length l.names.items ≤ 1024;
}
