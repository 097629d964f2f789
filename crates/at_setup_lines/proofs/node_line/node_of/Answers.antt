use Rattle.std.proofs.Common.{◌≡◌, false, ap}
use Rattle.at_words.specs.Words.{words_of}
use Rattle.at_setup.specs.declared.setup.NodeSetup.{NodeSetup}
use Rattle.at_setup_lines.proofs.LineLemmas.{node_line, node_rest, place_left, rest_said}
use Rattle.at_setup_lines.proofs.node_line.node_of.Goals as goal

pub returns-in_err-zone : goal.returns-in_err-zone
returns-in_err-zone c =
    let none = c.in_err-zone.ensures in
    let old = words_of c.args.words.rest.now in
    let mid = words_of c.next.new.self.rest.now in
    let after = words_of c.take_if-router.new.self.rest.now in
    let same : c.take_if-router.result ≡ false → after
    ≡ mid = λ e. ap (λ w. words_of w.rest.now) (c.take_if-router.ensures.left e) in
    rw c.from_residual-in_err-zone.ensures (λ n said.
    let (number, rest) = node_rest old mid c.in_ok-next.field-0.now n c.in_ok-next.ensures.steps said in
    none (n.zone, n.receive_room, n.send_room)
    (place_left c.take_if-router.result mid after n.router n.zone n.receive_room n.send_room
    c.take_if-router.ensures.taken same c.take_if-router.ensures.only rest))

pub returns : goal.returns
returns c =
    let old = words_of c.args.words.rest.now in
    let mid = words_of c.next.new.self.rest.now in
    let after = words_of c.take_if-router.new.self.rest.now in
    let same : c.take_if-router.result ≡ false → after
    ≡ mid = λ e. ap (λ w. words_of w.rest.now) (c.take_if-router.ensures.left e) in
    let router = c.take_if-router.result in
    let zone = c.in_ok-zone.zone in
    let r = c.in_ok-zone.receive_room in
    let s = c.in_ok-zone.send_room in
    let n : NodeSetup = record {
      node = c.in_ok-node.node;
      router = router;
      zone = zone;
      receive_room = r;
      send_room = s;
    } in
    node_line old mid c.in_ok-next.field-0.now n c.in_ok-next.ensures.steps c.in_ok-node.ensures
    (rest_said router mid after zone r s c.take_if-router.ensures.taken same c.in_ok-zone.ensures)
