use Rattle.std.proofs.Common.{◌≡◌, [], sym, ◌∙◌}
use Rattle.at_name_socket.specs.NameSockets.{asked_by}
use Rattle.at_name_socket.proofs.OpeningLemmas.{asks_all, asks_router, node_asked}
use Rattle.at_name_socket.proofs.socket.lookups_of.Goals as goal
use Rattle.at_name_socket.proofs.socket.lookups_of.Goals.{then-is_some, else-is_some}

pub returns : goal.returns
returns g c =
    let function : c.if-is_some.function ≡ asked_by c.args.router =
    elim c.if-is_some.branch [
      | then-is_some w ↦ w.function-is ∙ asks_router c.args.router (sym c.is_some.ensures ∙ w.if-is_some.true)
      | else-is_some w ↦ w.function-is ∙ asks_all c.args.router (sym c.is_some.ensures ∙ w.if-is_some.false)
    ] in
    c.new.ensures
    ∙ (λ j. record {
      own = c.args.own;
      to =
          record {
            net = c.args.own.net;
            node = (c.unwrap_or-node.ensures ∙ node_asked c.args.router) j;
            socket = c.args.own.socket;
          };
      function = function j;
      next = 0;
      searches = [];
    })
