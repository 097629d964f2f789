use Rattle.std.proofs.Common.{◌≡◌, ◌+◌, ◌≤◌, ◌∙◌, sym, ap, subst, refl, length, ◌++◌, arith}
use Rattle.std.specs.Prelude.{option_map}
use Rattle.std.proofs.lemmas.List.{take_rest}
use Rattle.at_pcap.specs.Frames.{frame_with}
use Rattle.at_pcap.specs.Orders.{number_in}
use Rattle.at_pcap.specs.Readings.{place}
use Rattle.at_pcap.specs.Steps.{TakesFound}
use Rattle.at_pcap.proofs.RuleLemmas.{four_before}
use Rattle.at_pcap.proofs.pcapng.next_block.Goals as goal

pub returns-clause-moved : goal.returns-clause-moved
returns-clause-moved g c =
    let front = c.args.front.now in
    let block = c.in-Ok.ensures.block in
    let long : 8 ≤ length front = c.in-Ok.ensures.long refl in
    let o = c.read_block.new.section.order in
    let n : c.from.result ≡ length (front ++ block.more) =
    c.from.ensures ∙ c.read_u32.ensures ∙ ap (number_in o 4) (take_rest front 4)
    ∙ sym (four_before o 4 front block.more (omega arith)) ∙ sym block.whole in
    record {
      found = option_map (λ f. frame_with f c.read_block.new.buffer.items) c.in-Ok.found;
      block = block;
      taken = subst (λ l. TakesFound g.S.Sink.takes c.args.sink.now (option_map (λ f. frame_with f l) c.in-Ok.found)
          c.take_found.new.sink) c.deref.ensures.value c.in_ok-take_found.ensures.ok;
      here = c.saturating_add.ensures ∙ ap (λ m. place (c.args.at + m)) n;
    }
