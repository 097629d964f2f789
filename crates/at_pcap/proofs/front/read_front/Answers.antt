use Rattle.std.proofs.Common.{◌≡◌, ◌-◌, ◌++◌, drop, length, arith, ap, ◌∙◌, length-take-le}
use Rattle.std.proofs.lemmas.List.{length-append, length-drop, take_at}
use Rattle.at_pcap.specs.Steps.{front_len}
use Rattle.at_pcap.proofs.FrontLemmas.{both_front, both_read}
use Rattle.at_pcap.proofs.front.read_front.Goals as goal

pub returns-clause-bytes : goal.returns-clause-bytes
returns-clause-bytes g c =
    let front = c.args.front.now in
    let whole : length c.fill.new.buffer ≡ 8 =
    c.fill.auto.buffer ∙ length-take-le 8 front (omega (arith, c.requires)) in
    both_read c.fill.new.buffer (drop 8 front) c.fill-2.new.buffer c.in_ok-len.len c.in_ok-more.more
    (c.front_len-wanted.result - 8) whole
    c.if-len-lt-HEADER_LEN.false c.in_ok-len.ensures.bound c.in_ok-more.ensures.bound _ _ _
    c.in_ok-len.ensures.bytes c.in_ok-more.ensures.bytes

pub returns-clause-front : goal.returns-clause-front
returns-clause-front g c =
    let front = c.args.front.now in
    let header = c.fill.new.buffer in
    let whole : length header ≡ 8 =
    c.fill.auto.buffer ∙ length-take-le 8 front (omega (arith, c.requires)) in
    let o = c.args.order in
    let rest = drop 8 front in
    let wanted : c.front_len-wanted.result ≡ front_len o header =
    c.front_len-wanted.ensures.value ∙ ap (front_len o) (take_at header rest 8 whole) in
    let fields : length c.fill-2.new.buffer ≡ c.front_len-wanted.result - 8 =
    c.fill-2.auto.buffer ∙ length-take-le (c.front_len-wanted.result - 8) (drop 8 (header ++ rest))
    (omega (
      arith,
      length-drop 8 (header ++ rest),
      length-append header rest,
      length-drop 8 front,
      c.requires,
      c.front_len-wanted.ensures.most,
    )) in
    let bound = c.in_ok-more.ensures.bound in
    let least = c.front_len-wanted.ensures.least in
    both_front header rest c.fill-2.new.buffer c.in_ok-len.len c.in_ok-more.more
    (c.front_len-wanted.result - 8) whole c.if-len-lt-HEADER_LEN.false c.in_ok-len.ensures.bound bound o _
    (omega (arith, wanted, fields, bound, least))
    (λ less. c.in_ok-more.ensures.end (omega (arith, wanted, fields, least, less)))
