use Rattle.std.proofs.Common.{List, ℕ, length, map, ap, subst, sym, ◌∙◌, arith}
use Rattle.std.proofs.lemmas.List.{length-append}
use Rattle.std.specs.Prelude.{All}
use Rattle.at_nbp.specs.Packets.{HasCount, spelling}
use Rattle.at_nbp.specs.Tuples.{FitsStrings, content}
use Rattle.at_nbp.specs.declared.tuple.Tuple.{Tuple}
use Rattle.at_nbp.proofs.AskingLemmas.{none_refuses, one_counts, one_fits, one_len}
use Rattle.at_nbp.proofs.asking.send_one.Goals as goal

pub unwrap-requires : goal.unwrap-requires
unwrap-requires g c =
    let one = sym c.from_ref.ensures.value in
    let counts : HasCount c.args.function (length c.from_ref.result.now) =
    subst (λ (l : List Tuple). HasCount c.args.function (length l)) one (one_counts c.args.function) in
    let fits : All FitsStrings (map content c.from_ref.result.now) =
    subst (λ (l : List Tuple). All FitsStrings (map content l)) one
    (one_fits (content c.args.tuple.now) c.requires) in
    let len = ap (λ (l : List Tuple). length
    (spelling (record { function = c.args.function; id = c.args.id; tuples = map content l }))) one in
    none_refuses c.encode.result (λ e. c.encode.ensures.bad_count.0 e counts)
    (λ e. (c.encode.ensures.bad_string.0 e).1 fits)
    (λ e. absurd (omega (
      arith,
      c.encode.ensures.room e,
      len,
      one_len c.args.function c.args.id
          (content c.args.tuple.now) c.requires,
      c.in_ok-bytes.ensures.capacity,
      c.in_ok-bytes.ensures.len,
    )))
    c.encode.ensures.memory

pub push-requires : goal.push-requires
push-requires g c =
    let spelled = c.as_slice.ensures.value ∙ rw c.unwrap.ensures at c.encode.ensures.ok in
    let len = ap (λ (l : List Tuple). length
    (spelling (record { function = c.args.function; id = c.args.id; tuples = map content l })))
    c.from_ref.ensures.value in
    omega (
      arith,
      ap (length {A = ℕ}) spelled,
      ap (length {A = ℕ}) c.in_ok-bytes.ensures.items,
      len,
      one_len c.args.function c.args.id (content c.args.tuple.now) c.requires,
      length-append c.in_ok-bytes.bytes.items
          (spelling (record {
            function = c.args.function;
            id = c.args.id;
            tuples = map content c.from_ref.result.now;
          })),
    )
