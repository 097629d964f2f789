use Rattle.std.proofs.Common.{◌≡◌, ◌++◌, drop, false, sym, ◌∙◌}
use Rattle.at_print.specs.Items.{items_text, starts_with_byte}
use Rattle.at_print.proofs.PrintLemmas.{text_more, text_whole}
use Rattle.at_print.proofs.print.streams.write_items.Goals as goal

pub loop-rest-init : goal.loop-rest-init
loop-rest-init g c = text_whole g.W.Paper.page c.args.printer.now (items_text false c.args.items.now)

pub loop-rest-preserved : goal.loop-rest-preserved
loop-rest-preserved g c =
    let front = c.write_front-count.ensures.printed in
    let left = items_text c.loop-rest.follows_byte c.loop-rest.rest.now in
    let after = items_text c.starts_with_byte-follows_byte.result c.split_at.result.1.now in
    let next : c.starts_with_byte-follows_byte.result ≡ starts_with_byte c.loop-rest.rest.now =
    c.starts_with_byte-follows_byte.ensures in
    let back : c.split_at.result.1.now ≡ drop c.write_front-count.result c.loop-rest.rest.now =
    c.split_at.ensures.back in
    let parts : left ≡ front.0 ++ after = front.2
    ∙ (λ i. front.0 ++ items_text (sym next i) (sym back i)) in
    text_more g.W.Paper.page c.args.printer.now c.loop-rest.printer c.write_front-count.new.printer
    (items_text false c.args.items.now) left front.0 after c.loop-rest.invariant parts front.1
