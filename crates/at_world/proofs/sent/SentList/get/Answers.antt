use Rattle.std.proofs.Common.{◌≡◌, ◌<◌, length, Some, arith, sym, ap, ◌∙◌}
use Rattle.std.specs.Prelude.{slice_get}
use Rattle.std.proofs.lemmas.Option.{slice_get-get_or}
use Rattle.at_world.proofs.SentLemmas.{length_in, stamped_in}
use Rattle.at_world.proofs.sent.SentList.get.Goals as goal

pub index-requires : goal.index-requires
index-requires g c = omega (
  arith,
  c.self.inside.events.ok.0,
  length_in c.args.self.now c.self.inside.events.items c.self.inside.list.items
      c.self.view_is c.self.invariant,
)

pub node-requires : goal.node-requires
node-requires g c = (let fits = c.self.invariant in
    omega (
      arith,
      length_in c.args.self.now c.self.inside.events.items c.self.inside.list.items c.self.view_is
          c.self.invariant,
    ))

pub get-requires : goal.get-requires
get-requires g c = (let fits = c.self.invariant in
    omega (
      arith,
      length_in c.args.self.now c.self.inside.events.items c.self.inside.list.items c.self.view_is
          c.self.invariant,
    ))

pub returns : goal.returns
returns g c =
    let len = length_in c.args.self.now c.self.inside.events.items c.self.inside.list.items c.self.view_is
    c.self.invariant in
    let lt : c.args.index < length c.self.inside.events.items = omega (arith, len) in
    let here : slice_get c.self.inside.events.items c.args.index
    ≡ Some c.index.result.now = slice_get-get_or c.self.inside.events.items c.args.index c.index.result.now lt
    ∙ ap (λ e. Some e) (sym c.index.ensures) in
    stamped_in c.args.self.now c.self.inside.events.items c.self.inside.list.items c.args.index _ _ _ c.self.view_is
    here c.node.ensures c.get.ensures
