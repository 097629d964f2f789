-- What a datagram of the network that comes to a node is at its socket for names.
use Rattle.std.proofs.Common.{◌≡◌, ◌⊎◌, inl, inr, ℕ, ◌<◌, Bool, true, false, List, [], Some, None, refl, sym, ap, subst}
use Rattle.std.proofs.Common.{arith}
use Rattle.std.specs.Prelude.{MatchBool, nat_lt, ◌==◌, ◌&&◌, ◌||◌}
use Rattle.std.proofs.lemmas.Bool.{and_parts, eqb-true, ltb-true}
use Rattle.at_ddp.specs.Datagram.{canonical, written}
use Rattle.at_ddp.specs.declared.address.Address.{Address}
use Rattle.at_nbp.specs.Askers.{AsksFor, IsSentFor}
use Rattle.at_nbp.specs.Lawfully.{IsLawfullySent}
use Rattle.at_ddp.specs.Posts.{packet_at}
use Rattle.at_ddp.proofs.PostLemmas.{sent_at}
use Rattle.at_ddp.specs.Protocols.{nbp_kind}
use Rattle.at_nbp.specs.Network.{Happening, Sent, Setting, after, is_fresh}
use Rattle.at_nbp.specs.Packets.{Content, spelling}
use Rattle.at_nbp.specs.declared.function.Function.TheVariants as function
use Rattle.at_nbp.specs.declared.function.Function.{Function}
use Rattle.at_name_socket.specs.NameSockets.{Hears as SocketHears, SocketState, Takes, names_of}
use Rattle.at_name_socket.specs.Sockets.{Stays}
use Rattle.at_name_socket.specs.declared.step.Heard.{Heard}
use Rattle.at_name_socket.specs.declared.step.Heard.TheVariants as heard
use Rattle.at_node.specs.Numbers.{drawn_by}
use Rattle.at_node.specs.Hearing.{Hears, HearsIt}
use Rattle.at_node.specs.NameCalls.{sent_of}
use Rattle.at_node.specs.NameHearing.{HearsName, HearsNames, HearsNbpFault, told_by}
use Rattle.at_node.specs.Nodes.{NodeState, with_names}
use Rattle.at_event.specs.Outcomes.{Outcome, Over, idle, over}
use Rattle.at_event.specs.Seats.{is_for_all, is_mine}
use Rattle.at_event.specs.declared.Report.{Report}
use Rattle.at_event.specs.declared.Report.TheVariants as report
use Rattle.at_event.specs.declared.service.Reply.{Reply}
use Rattle.at_steps.specs.Acts.{Gets}
use Rattle.at_steps.specs.NameHappenings.{Stands, is_names_socket}
use Rattle.at_steps.specs.NameSteps.{Plain, is_plain}
use Rattle.at_steps.proofs.Protocols.Names.Below.{HearingLaws}
use Rattle.at_steps.proofs.Protocols.Names.Carrying.{datagram_begins, packet_begins}
use Rattle.at_steps.proofs.Protocols.Names.Moves.{IsIts, draws_none, idle_moves, moved, stands_lawfully}

-- what comes of a packet is plain, and draws no identifier
told_is_plain : (A : Type 0) (which : ℕ) (h : Heard) → (is_plain {A = A} (Gets which) (told_by h) ≡ true)
    × (drawn_by {A = A} (told_by h) ≡ None)
told_is_plain A which heard.Ignored = (refl, refl)
told_is_plain A which heard.Relayed = (refl, refl)
told_is_plain A which (heard.Answered count) = (refl, refl)
told_is_plain A which (heard.Kept count) = (refl, refl)

-- no packet changes the names
names_stay : (s : SocketState) (p : Content) (f : Function) (h : Heard) (new : SocketState)
    (pushes : List (Address × List ℕ)) → Takes s p f h new pushes → new.table ≡ s.table
names_stay s p function.LookUp h new pushes t = ap (λ (x : SocketState). x.table) t.1
names_stay s p function.Reply h new pushes t = ap (λ (x : SocketState). x.table) t.1
names_stay s p function.BroadcastRequest h new pushes t = ap (λ (x : SocketState). x.table) t.1
names_stay s p function.ForwardRequest h new pushes t = ap (λ (x : SocketState). x.table) t.1

-- a reply goes to the one who asked
reply_goes : (these : Address → Bool) (s : Sent) → IsSentFor these s → s.packet.function ≡ function.Reply → these s.to
    ≡ true
reply_goes these s asks replies = subst (λ f. AsksFor these s.to f s.packet.tuples) replies asks

-- a node's address is not that of every node
not_for_all : (node : ℕ) → node < 255 → node ≡ 255 → ⊥
not_for_all node small is = omega (arith, small, is)

module _ (A : Type 0) (laws : HearingLaws) (setting : Setting) (history : List Happening) (n : NodeState)
    (st : Stands setting history n.seat.net n.seat.number n) (which : ℕ) (s : Sent)
    (was_sent : packet_at (after setting history).sent which ≡ Some s)
    (fresh : s.packet.function ≡ function.Reply → is_fresh (after setting history).begun s ≡ true) where
  idling : (r : Report A) → is_plain {A = A} (Gets which) r ≡ true → drawn_by r ≡ None
      → IsIts A setting history n (Gets which) (idle n r)
  idling r plain none = idle_moves A setting history n st
      (laws.stood setting history st.all_ask st.timely) laws.nothing (Gets which) r plain none

  ignoring : (o : Outcome A NodeState) → o ≡ idle n report.Ignored → IsIts A setting history n (Gets which) o
  ignoring o is = subst (IsIts A setting history n (Gets which)) (sym is) (idling report.Ignored refl refl)

  ok : IsLawfullySent s
  ok = sent_at IsLawfullySent (after setting history).sent which s
      (laws.lawful setting history st.lawful st.timely st.in_range) was_sent

  -- a reply that is for this node goes to its socket for names
  its_own : (is_for_all n.seat nbp_kind s.to || is_mine n.seat s.to) ≡ true → s.packet.function ≡ function.Reply → s.to
      ≡ names_of n.seat.net n.seat.number
  its_own for replies = go (is_for_all n.seat nbp_kind s.to) refl for
    where
      asks : is_names_socket n.seat.net s.to ≡ true
      asks = reply_goes (is_names_socket n.seat.net) s
          (sent_at (IsSentFor (is_names_socket n.seat.net)) (after setting history).sent which s
          (laws.asked (is_names_socket n.seat.net) setting history st.all_ask st.timely st.asked) was_sent) replies

      on_net : s.to.net ≡ n.seat.net
      on_net = let both = and_parts (s.to.net == n.seat.net) (nat_lt s.to.node 255 && (s.to.socket == 2)) asks in
          eqb-true s.to.net n.seat.net both.0

      rest : (nat_lt s.to.node 255 && (s.to.socket == 2)) ≡ true
      rest = let both = and_parts (s.to.net == n.seat.net) (nat_lt s.to.node 255 && (s.to.socket == 2)) asks in both.1

      small : s.to.node < 255
      small = let both = and_parts (nat_lt s.to.node 255) (s.to.socket == 2) rest in ltb-true s.to.node 255 both.0

      socket : s.to.socket ≡ 2
      socket = let both = and_parts (nat_lt s.to.node 255) (s.to.socket == 2) rest in eqb-true s.to.socket 2 both.1

      go : (b : Bool) → is_for_all n.seat nbp_kind s.to ≡ b → (b || is_mine n.seat s.to) ≡ true → s.to
          ≡ names_of n.seat.net n.seat.number
      go true e h = let both = and_parts ((s.to.net == n.seat.net) || (s.to.net == 0)) (s.to.node == 255) e in
          absurd (not_for_all s.to.node small (eqb-true s.to.node 255 both.1))
      go false e h =
          let both = and_parts ((s.to.net == n.seat.net) || (s.to.net == 0)) (s.to.node == n.seat.number) h in
          let here = eqb-true s.to.node n.seat.number both.1 in
          λ i. record { net = on_net i; node = here i; socket = socket i }

  -- what the packet does at the socket
  taking : (s.packet.function ≡ function.Reply → s.to ≡ names_of n.seat.net n.seat.number)
      → (step : Heard) (new : SocketState) (pushes : List (Address × List ℕ))
      → Takes n.names s.packet s.packet.function step new pushes
      → IsIts A setting history n (Gets which)
      (over (with_names n) (record { report = told_by step; state = new; out = sent_of n.seat pushes }))
  taking here step new pushes takes =
      let lawful = ok.lawful in
      let stands = stands_lawfully A setting history n st (laws.stood setting history st.all_ask st.timely) in
      let h = laws.comes (after setting history) (names_of n.seat.net n.seat.number) n.names which step new pushes
      stands (record {
        sent = s;
        is = was_sent;
        counted = lawful.count;
        here = here;
        fresh = fresh;
        takes = takes;
      }) in
      let i = h.is in
      let b = i.becomes in
      let told = told_is_plain A which step in (
        moved A setting history n st (Gets which) (told_by step) new Stays pushes h
            (λ now is. draws_none (after setting history).event (names_of n.seat.net n.seat.number)
            (drawn_by {A = A} (told_by step)) (after setting history).begun now told.1 is),
        Plain (record {
          plain = told.0;
          table = names_stay n.names s.packet s.packet.function step new pushes takes;
          lookups = b.opened;
        }),
      )

  at_socket : (s.packet.function ≡ function.Reply → s.to ≡ names_of n.seat.net n.seat.number)
      → (p : Outcome A SocketState) → HearsNames n.seat n.names (written s.to s.from nbp_kind (spelling s.packet)) p
      → IsIts A setting history n (Gets which) (over (with_names n) p)
  at_socket here p = go (s.to.socket == 2)
    where
      by : (q : Outcome A SocketState) → p ≡ q → IsIts A setting history n (Gets which) (over (with_names n) q)
          → IsIts A setting history n (Gets which) (over (with_names n) p)
      by q is h = subst (λ x. IsIts A setting history n (Gets which) (over (with_names n) x)) (sym is) h

      -- the packet that the data begins with is the one that was sent
      hearing : (step : Heard) (new : SocketState) (pushes : List (Address × List ℕ))
          → SocketHears n.names (spelling s.packet) step new pushes
          → Takes n.names s.packet s.packet.function step new pushes
      hearing step new pushes h =
          let same = laws.packet (spelling s.packet) h.packet s.packet h.rest [] h.begins
          (packet_begins laws.reading s ok) in
          subst (λ (q : Content). Takes n.names q q.function step new pushes) same.0 h.takes

      go : (b : Bool) → MatchBool b
          (HearsName n.seat n.names (spelling s.packet) p ⊎ HearsNbpFault n.names (spelling s.packet) p)
          (p ≡ idle n.names report.Ignored) → IsIts A setting history n (Gets which) (over (with_names n) p)
      go true (inl h) = by (record { report = told_by h.step; state = h.new; out = sent_of n.seat h.pushes }) h.outcome
          (taking here h.step h.new h.pushes (hearing h.step h.new h.pushes h.hears))
      go true (inr h) = by (idle n.names (report.Refused h.number)) h.outcome
          (idling (report.Refused h.number) refl refl)
      go false is = by (idle n.names report.Ignored) is (idling report.Ignored refl refl)

  pub datagram_happens : (said : Reply A) (o : Outcome A NodeState)
      → Hears said n (canonical s.to s.from nbp_kind (spelling s.packet)) o → IsIts A setting history n (Gets which) o
  datagram_happens said o (inr h) = subst (IsIts A setting history n (Gets which)) (sym h.outcome)
      (idling (report.Refused h.number) refl refl)
  datagram_happens said o (inl h) = go (is_for_all n.seat nbp_kind s.to || is_mine n.seat s.to) refl as_written
    where
      as_written : HearsIt said n (written s.to s.from nbp_kind (spelling s.packet)) o
      as_written =
          let reading = laws.reading in
          let same = reading.alone (canonical s.to s.from nbp_kind (spelling s.packet)) h.datagram
          (written s.to s.from nbp_kind (spelling s.packet)) h.rest [] h.begins
          (datagram_begins laws.reading s ok) in
          subst (λ d. HearsIt said n d o) same.0 h.outcome

      go : (b : Bool) → (is_for_all n.seat nbp_kind s.to || is_mine n.seat s.to) ≡ b
          → MatchBool b (Over (with_names n)
          (HearsNames n.seat n.names (written s.to s.from nbp_kind (spelling s.packet))) o) (o ≡ idle n report.Ignored)
          → IsIts A setting history n (Gets which) o
      go false e g = ignoring o g
      go true e g = subst (IsIts A setting history n (Gets which)) (sym g.2) (at_socket (its_own e) g.0 g.1)
