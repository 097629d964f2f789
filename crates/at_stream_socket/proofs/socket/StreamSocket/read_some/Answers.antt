use Rattle.std.proofs.Common.{◌≡◌, ◌≤◌, ◌++◌, ap, length, refl, subst, sym, ◌∙◌, arith}
use Rattle.std.specs.Prelude.{drop, take}
use Rattle.std.proofs.lemmas.List.{take-append-le, take-take}
use Rattle.at_adsp_end.specs.Positions.{wire}
use Rattle.at_adsp_ends.specs.Calls.{read_at}
use Rattle.at_adsp_ends.specs.Moves.{IsCalled, read_of}
use Rattle.at_adsp_ends.specs.Tables.{by_id}
use Rattle.at_stream_socket.specs.Sockets.{told_read}
use Rattle.at_stream_socket.proofs.CallLemmas.{IsBox, call_step, can_read, reported}
use Rattle.at_stream_socket.proofs.socket.StreamSocket.read_some.Goals as goal
use Rattle.at_stream_socket.proofs.socket.StreamSocket.read_some.Goals.{in-Ok-read, in-Err}

pub returns : goal.returns
returns g c =
    let t = c.self.inside.ends in
    let all : length c.deref_mut.result.now ≡ c.args.count = c.deref_mut.ensures.len ∙ c.in-Ok.ensures.len in
    let box : IsBox c.args.seat c.send_from.new.self c.args.out.now.items = record {
      items = c.send_from.ensures.items;
      from = c.send_from.ensures.from ∙ c.at.ensures;
      kind = c.send_from.ensures.kind;
    } in
    let same : c.match-read.result
    ≡ reported {A = g.row.A.Denot} told_read (read_of c.read.result c.read.new.items) =
    elim c.match-read.branch [
      | in-Ok-read w ↦
          let count = w.in-Ok-read.count in
          let new = c.read.new.items in
          let rest = drop (length new) c.resize.new.self.items in
          let same_length = c.read.auto.items in
          let within = w.in-Ok-read.ensures.within in
          let few : count ≤ length new = omega (arith, within, same_length) in
          let len : length c.deref_mut.result.now ≡ c.resize.new.self.len = c.deref_mut.ensures.len in
          let fits : count ≤ c.resize.new.self.len = omega (arith, within, len) in
          let read : take count (take c.resize.new.self.len (new ++ rest))
          ≡ take count new = take-take count c.resize.new.self.len (new ++ rest) fits
          ∙ take-append-le count new rest few in
          w.result-is ∙ ap told_read (w.from_vec.ensures ∙ w.truncate.ensures.items ∙ read)
          ∙ ap (λ r. reported {A = g.row.A.Denot} told_read (read_of r c.read.new.items))
          (sym w.in-Ok-read.is)
      | in-Err w ↦ w.result-is ∙ w.refused_by.ensures
          ∙ ap (λ r. reported {A = g.row.A.Denot} told_read (read_of r c.read.new.items)) (sym w.in-Err.is)
    ] in
    let call = subst (λ n. IsCalled (read_at wire t n (by_id t c.args.id))
    (read_of c.read.result c.read.new.items) t c.read.new.self c.send_from.new.self
    c.read.new.out) all c.read.ensures.call in
    rw (same, ← c.self.view_is)
    (call_step c.args.seat t c.read.new.self told_read (read_at wire t c.args.count (by_id t c.args.id))
    (read_of c.read.result c.read.new.items) c.send_from.new.self c.read.new.out
    c.args.out.now.items (λ x. refl) (λ d is. refl) box call)

pub returns-in_default : goal.returns-in_default
returns-in_default g c =
    let t = c.args.self.now in
    let u = c.requires in
    (refl, refl, can_read g.row.A.Denot c.args.seat t c.args.count u.0 (by_id t c.args.id) u.1)
