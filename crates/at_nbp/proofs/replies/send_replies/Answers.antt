use Rattle.std.proofs.Common.{◌≡◌, ◌-◌, ◌<◌, ◌∷◌, [], List, ℕ, length, map, drop, take, ap, subst, ◌∙◌, arith}
use Rattle.std.proofs.lemmas.List.{length-map}
use Rattle.at_ddp.specs.Sending.{Sends}
use Rattle.at_nbp.specs.Packets.{spelling}
use Rattle.at_nbp.specs.Replies.{IsFull, sent_reply}
use Rattle.at_nbp.specs.Tuples.{Entry, content}
use Rattle.at_nbp.specs.declared.function.Function.TheVariants.{Reply}
use Rattle.at_nbp.proofs.ReplyLemmas.{all_sent, none_sent, one_left, reply_fits, reply_is, reply_size, rest_fits}
use Rattle.at_nbp.proofs.ReplyLemmas.{rest_is, sent_more}
use Rattle.at_nbp.proofs.replies.send_replies.Goals as goal

pub loop-sent-init : goal.loop-sent-init
loop-sent-init g c = (
  none_sent (map content c.args.tuples.now) c.args.id c.args.to c.args.out.now c.room.new.self
      (length c.args.tuples.now) c.room.ensures.stays c.in_ok-room.ensures.ok
      (omega (arith, length-map c.args.tuples.now content)),
  c.in_ok-bytes.ensures.capacity,
)

pub fitting-count-requires-clause-short : goal.fitting-count-requires-clause-short
fitting-count-requires-clause-short g c = rest_fits c.args.tuples.now c.loop-sent.sent c.requires.short

pub write_reply-requires-clause-short : goal.write_reply-requires-clause-short
write_reply-requires-clause-short g c =
    reply_fits c.args.tuples.now c.loop-sent.sent c.fitting-count.result c.requires.short

pub write_reply-requires-clause-room : goal.write_reply-requires-clause-room
write_reply-requires-clause-room g c =
    let full = subst (λ (l : List Entry). IsFull l c.fitting-count.result)
    (rest_is c.args.tuples.now c.loop-sent.sent) c.fitting-count.ensures in
    omega (
      arith,
      reply_size c.args.tuples.now c.loop-sent.sent c.fitting-count.result c.args.id full,
      c.loop-sent.invariant.1,
    )

pub push-requires : goal.push-requires
push-requires g c =
    let full = subst (λ (l : List Entry). IsFull l c.fitting-count.result)
    (rest_is c.args.tuples.now c.loop-sent.sent) c.fitting-count.ensures in
    omega (
      arith,
      reply_size c.args.tuples.now c.loop-sent.sent c.fitting-count.result c.args.id full,
      ap
          (length {A = ℕ}) (c.as_slice.ensures.value ∙ c.write_reply.ensures.items),
    )

pub unwrap-requires : goal.unwrap-requires
unwrap-requires g c =
    let full = subst (λ (l : List Entry). IsFull l c.fitting-count.result)
    (rest_is c.args.tuples.now c.loop-sent.sent) c.fitting-count.ensures in
    let sent = c.loop-sent.invariant.0 in
    let room = one_left (map content c.args.tuples.now) c.args.id c.args.to c.loop-sent.sent c.args.out.now
    c.loop-sent.out sent (omega (arith, length-map c.args.tuples.now content, c.loop-sent-test.true)) in
    (c.push.ensures.room (sent.left - 1) 586 room
    (omega (
      arith,
      reply_size c.args.tuples.now c.loop-sent.sent c.fitting-count.result c.args.id full,
      ap
          (length {A = ℕ}) (c.as_slice.ensures.value ∙ c.write_reply.ensures.items),
    ))).0

pub loop-sent-preserved : goal.loop-sent-preserved
loop-sent-preserved g c =
    let full = subst (λ (l : List Entry). IsFull l c.fitting-count.result)
    (rest_is c.args.tuples.now c.loop-sent.sent) c.fitting-count.ensures in
    let sent = c.loop-sent.invariant.0 in
    let within : c.loop-sent.sent < length (map content c.args.tuples.now) =
    omega (arith, length-map c.args.tuples.now content, c.loop-sent-test.true) in
    let room = one_left (map content c.args.tuples.now) c.args.id c.args.to c.loop-sent.sent c.args.out.now
    c.loop-sent.out sent within in
    let left = c.push.ensures.room (sent.left - 1) 586 room
    (omega (
      arith,
      reply_size c.args.tuples.now c.loop-sent.sent c.fitting-count.result c.args.id full,
      ap
          (length {A = ℕ}) (c.as_slice.ensures.value ∙ c.write_reply.ensures.items),
    )) in
    let pushed = rw c.unwrap.ensures at c.push.ensures.ok in
    let bytes : c.as_slice.result.now
    ≡ (sent_reply c.args.id c.args.to
    (take c.fitting-count.result (drop c.loop-sent.sent (map content c.args.tuples.now)))).1 =
    c.as_slice.ensures.value ∙ c.write_reply.ensures.items
    ∙ ap (λ (l : List Entry). spelling (record { function = Reply; id = c.args.id; tuples = l }))
    (reply_is c.args.tuples.now c.loop-sent.sent c.fitting-count.result) in (
      sent_more (map content c.args.tuples.now) c.args.id c.args.to c.loop-sent.sent c.fitting-count.result
          c.args.out.now c.loop-sent.out c.push.new.self sent within full
          (subst (λ (b : List ℕ). Sends c.loop-sent.out c.push.new.self ((c.args.to, b) ∷ [])) bytes pushed) left.1,
      omega (arith, c.loop-sent.invariant.1, c.write_reply.ensures.room),
    )

pub returns-clause-sent : goal.returns-clause-sent
returns-clause-sent g c =
    all_sent (map content c.args.tuples.now) c.args.id c.args.to c.loop-sent.sent c.args.out.now c.loop-sent.out
    c.loop-sent.invariant.0 (omega (arith, length-map c.args.tuples.now content, c.loop-sent-test.false))
