-- How many packets the socket sends for one that came.
use Rattle.std.proofs.Common.{◌≡◌, ℕ, ◌≤◌, Bool, List, [], ◌∷◌, length, drop, Option, Some, None, sym, subst, arith}
use Rattle.std.specs.Prelude.{filter}
use Rattle.std.proofs.lemmas.List.{length-drop, length-map}
use Rattle.std.proofs.lemmas.List.Sums.{count_by-le-length, length-filter}
use Rattle.at_ddp.specs.declared.address.Address.{Address}
use Rattle.at_name_socket.specs.NameSockets.{AnswersTo, Hears, Relays, SocketState, Takes, zone_of}
use Rattle.at_name_socket.specs.declared.neighbour.Neighbour.{Neighbour}
use Rattle.at_name_socket.specs.declared.step.Heard.{Heard}
use Rattle.at_nbp.specs.NameTables.{AreNames, Table}
use Rattle.at_nbp.specs.Names.{is_match}
use Rattle.at_nbp.specs.Packets.{Content, HasCount, spelling}
use Rattle.at_nbp.specs.Relays.{relayed}
use Rattle.at_nbp.specs.Replies.{AreReplies, entry_in, matching, name_in, pattern_of, sent_reply}
use Rattle.at_nbp.specs.Tuples.{Entry}
use Rattle.at_nbp.specs.declared.name.Name.{Name}
use Rattle.at_nbp.specs.declared.names.Registered.{Registered}
use Rattle.at_nbp.specs.declared.function.Function.{Function}
use Rattle.at_nbp.specs.declared.function.Function.TheVariants.{BroadcastRequest, LookUp, Reply, ForwardRequest}

-- each reply has a tuple
replies_few : (replies : List (List Entry)) (entries : List Entry) → AreReplies entries replies
    → length replies ≤ length entries
replies_few [] entries all = omega arith
replies_few (reply ∷ replies) entries all =
    let rest = replies_few replies (drop (length reply) entries) all.2 in
    omega (arith, all.0.some, all.0.within, rest, length-drop (length reply) entries)

matching_few : (table : Table) (pattern : Name) → length (matching table pattern) ≤ length table.names
matching_few table pattern =
    let match : Registered → Bool = λ r. is_match pattern (name_in table r) in
    let passed = filter match table.names in
    let few = count_by-le-length match table.names in
    omega (arith, few, length-filter match table.names, length-map passed (entry_in table))

module _ (s : SocketState) where
  abbrev Few : List (Address × List ℕ) → Type 0
  Few pushes = length pushes ≤ 64

  nothing : (pushes : List (Address × List ℕ)) → pushes ≡ [] → Few pushes
  nothing pushes is = subst Few (sym is) (omega arith)

  answers_few : (id : ℕ) (ts : List Entry) (h : Heard) (pushes : List (Address × List ℕ)) → AreNames s.table.names
      → AnswersTo s id ts h pushes → Few pushes
  answers_few id [] h pushes names (is, none) = nothing pushes none
  answers_few id (t ∷ ts) h pushes names (is, (replies, full, sent)) =
      let few = replies_few replies (matching s.table (pattern_of t)) full in
      let most = matching_few s.table (pattern_of t) in
      let as_many = length-map {B = Address × List ℕ} replies (sent_reply id t.address) in
      subst Few (sym sent) (omega (arith, few, most, names.few, as_many))

  relays_few : (p : Content) (known : Option (List Neighbour)) (h : Heard) (pushes : List (Address × List ℕ))
      → length p.tuples ≡ 1 → Relays s p known h pushes → Few pushes
  relays_few p None h pushes one (is, none) = nothing pushes none
  relays_few p (Some known) h pushes one (is, sent) =
      subst Few (sym sent) (omega (
        arith,
        one,
        length-map {B = Address × List ℕ} p.tuples (λ t. (
          record s.table.own { node = 255 },
          spelling (relayed (zone_of s.table.zone known t.address.node) p),
        )),
      ))

  takes_few : (p : Content) (f : Function) (h : Heard) (new : SocketState) (pushes : List (Address × List ℕ))
      → AreNames s.table.names → HasCount f (length p.tuples) → Takes s p f h new pushes → Few pushes
  takes_few p BroadcastRequest h new pushes names one (relays, same) = relays_few p s.neighbours h pushes one relays
  takes_few p LookUp h new pushes names one (answers, same) = answers_few p.id p.tuples h pushes names answers
  takes_few p Reply h new pushes names one (is, kept, none) = nothing pushes none
  takes_few p ForwardRequest h new pushes names one (relays, same) = relays_few p s.neighbours h pushes one relays

  pub hears_few : (bytes : List ℕ) (h : Heard) (new : SocketState) (pushes : List (Address × List ℕ))
      → AreNames s.table.names → Hears s bytes h new pushes → Few pushes
  hears_few bytes h new pushes names heard =
      takes_few heard.packet heard.packet.function h new pushes names heard.begins.lawful.count heard.takes
