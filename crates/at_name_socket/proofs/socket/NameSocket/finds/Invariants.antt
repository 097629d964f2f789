use Rattle.std.proofs.Common.{◌≡◌, ◌≤◌, take, vec_capacity}
use Rattle.at_nbp.specs.Lookups.{finds_in, search_of}
use Rattle.at_name_socket.proofs.socket.NameSocket.finds.Given as goal

abbrev pub invariant-loop-place : goal.invariant-loop-place
invariant-loop-place g l = (l.finds.items ≡ take l.place (finds_in (search_of l.self.lookups l.id)))
    × (l.count ≤ vec_capacity l.finds)
