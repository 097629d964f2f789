use Rattle.std.proofs.Common.{◌≡◌, ◌++◌, ◌∷◌, [], Some, sym, ap, subst, ◌∙◌, arith}
use Rattle.std.specs.Prelude.{slice_get}
use Rattle.at_nbp.specs.Lookups.{Lookups, finds_in, search_of}
use Rattle.at_name_socket.specs.NameSockets.{SocketState}
use Rattle.at_name_socket.proofs.SocketLemmas.{take_found}
use Rattle.at_name_socket.proofs.socket.NameSocket.finds.Goals as goal

pub loop-place-preserved : goal.loop-place-preserved
loop-place-preserved g c =
    let place = c.loop-place.place in
    let found = c.find.result.now in
    let there : slice_get (finds_in (search_of c.args.self.now.lookups c.args.id)) place ≡ Some found =
    subst (λ (l : Lookups). slice_get (finds_in (search_of l c.args.id)) place ≡ Some found)
    (ap (λ (s : SocketState). s.lookups) c.self.view_is) c.find.ensures in
    let pushed = rw c.unwrap.ensures at c.push.ensures.items in (
      pushed ∙ (λ i. c.loop-place.invariant.0 i ++ c.copy.ensures i ∷ [])
          ∙ sym (take_found (finds_in (search_of c.args.self.now.lookups c.args.id)) place found there),
      omega (arith, c.loop-place.invariant.1, c.push.ensures.capacity),
    )
